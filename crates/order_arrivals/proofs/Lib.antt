pub mod ArrivalLemmas
pub mod SplitLemmas
mod FamilyLemmas
mod PrefixLemmas
mod SumLemmas
