-- What a reader must believe: what is told of each symbol of a day, by its verdict and by the
-- further checks behind it, and the text of the day.
pub mod SymbolAnswers
pub mod CheckedSymbols
pub mod DayVerdicts
pub mod VerdictLists
pub mod ShareTelling
pub mod Laws
-- What functions pass on to one another.
pub mod SymbolWalks
