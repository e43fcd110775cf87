pub mod BrokenLemmas
pub mod InPhaseLemmas
pub mod CarriedLemmas
pub mod ChainLemmas
pub mod DayLemmas
pub mod DealtLemmas
pub mod EndedLemmas
pub mod EnteringLemmas
pub mod InstantLemmas
pub mod JudgeLemmas
pub mod LeavingLemmas
pub mod ListBelowLemmas
pub mod PhaseListLemmas
pub mod PartLemmas
pub mod PhaseDealLemmas
pub mod OneOffenceLemmas
pub mod TotalLemmas
pub mod UniqueLemmas
pub mod TextLemmas
mod SessionLemmas
mod LawLemmas
