-- What a reader must believe: the best limits after each record, the columns of the picture, and
-- the book right before a record.
pub mod Quotes
pub mod Columns
pub mod BooksAt
pub mod Pictures
-- What private functions pass on.
pub mod Active
pub mod Prices
pub mod Ranges
pub mod Rows
pub mod Sizes
pub mod Walks
