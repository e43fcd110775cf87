pub mod ExtremeLemmas
pub mod LimitLemmas
pub mod ActiveLemmas
mod AddingLemmas
