mod KeyLemmas
pub mod StoredLemmas
pub mod SumLemmas
