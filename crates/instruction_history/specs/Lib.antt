-- What a reader must believe: the words of public contracts. The history, its findings and its
-- order list are those of audit_base.
pub mod Answers
pub mod HistoryDraft
pub mod MarketPrices
pub mod HistoryOrFlaw
-- What private functions pass on: what is kept while records come, and what a history keeps.
pub mod Draft
pub mod History
pub mod Flaws
