mod CollectLemmas
pub mod JoinLemmas
mod AuditLemmas
mod VerdictLemmas
mod LawLemmas
mod RangeLemmas
mod ExistenceLemmas
