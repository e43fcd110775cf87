pub mod SymbolLemmas
pub mod PlaceLemmas
pub mod KeptLemmas
pub mod MetLemmas
mod ShareLemmas
