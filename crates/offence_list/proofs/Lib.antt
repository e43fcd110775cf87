pub mod ListLemmas
pub mod KindLemmas
pub mod PlaceLemmas
mod FirstLemmas
