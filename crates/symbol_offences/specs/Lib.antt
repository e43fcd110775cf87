-- What the public contracts cite.
pub mod Questions
pub mod OffenceAnswers
pub mod Laws
pub mod OffenceLines
pub mod Quotes
pub mod SymbolBeforeRule
-- What functions pass on to one another.
pub mod OrderLog
pub mod TradeLog
pub mod Telling
