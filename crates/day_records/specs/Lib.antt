-- What a reader must believe: which records of a symbol are kept, what is known of the order log of
-- a day after some of its records, what is known of one symbol, what its records give, and what is
-- known of all symbols of a share after the order log and some records of the trade log.
pub mod NameRows
pub mod KeptOrders
pub mod KeptTrades
pub mod DayOrders
pub mod SymbolDuringTrades
pub mod KeptRecords
pub mod SymbolRecords
pub mod DayTrades
