pub mod PartLemmas
pub mod ShareLemmas
pub mod TradeLemmas
