-- What a reader must believe: the symbols of a day, its shares, what is kept of each symbol, and
-- their laws.
pub mod Symbols
pub mod Shares
pub mod Kept
pub mod Laws
