-- What a reader must believe: the sessions of the symbols of a day.
pub mod SymbolSessions
pub mod JudgedSessions
pub mod Laws
