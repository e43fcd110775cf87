-- What a reader must believe: the name of the page of a symbol, how a browser reads the address
-- of a link, the lines of the text of a day and their fields, what is broken in words, which symbols
-- have a page, the rows and the page of a day; that no two symbols have one page, that a link leads
-- to it, and that each symbol of a day has its rows.
pub mod FileNames
pub mod Addresses
pub mod DayLines
pub mod PropertyWords
pub mod Links
pub mod Rows
pub mod DayPages
pub mod Laws
