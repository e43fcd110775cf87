pub mod HistoryLemmas
pub mod ConformingLemmas
pub mod ExistenceLemmas
