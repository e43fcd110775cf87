pub mod SymbolDuringTradesLemmas
pub mod ReplayLemmas
pub mod SymbolRecordsLemmas
pub mod DayTradesLemmas
pub mod DayOrderLemmas
-- Lemmas about what is kept.
pub mod NameRowLemmas
pub mod KeptLemmas
pub mod TradeLemmas
pub mod NumberedLemmas
