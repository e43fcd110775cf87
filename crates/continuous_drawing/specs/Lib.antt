-- What a reader must believe: in which plot the columns and the trades lie, and where the lines of
-- a book; what is drawn of each, of the offending place and of an order of the evidence; and the
-- sections that have all of it.
pub mod Extents
pub mod BookLayouts
pub mod Columns
pub mod Trades
pub mod Offending
pub mod Books
pub mod Marks
pub mod Captions
pub mod Sections
