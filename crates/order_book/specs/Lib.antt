-- What a reader must believe: a book as a list in rank order.
pub mod Books
-- What private functions pass on.
pub mod Entries
