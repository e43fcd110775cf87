-- What a reader must believe: how a log is cut into lines, what nine fields mean, what a
-- good and a bad log is, that each log is one of them, with numbers in range, what a feed
-- stands for, and the canonical log.
pub mod Lines
pub mod Columns
pub mod OrderLines
pub mod TradeLines
pub mod Logs
pub mod Laws
pub mod Feeds
pub mod Written
-- What private functions pass on: one line of a feed, lines that are read by one reader, one
-- written line, and what is known of the bytes of fields.
pub mod Steps
pub mod Readers
pub mod FieldBytes
pub mod NineFields
pub mod WrittenLines
