-- What a reader must believe: how elements, sections, cells and tables are written, what names
-- something outside of a page, and the page round its chief part; what each record is to a finding
-- in words, and the table of what shows it; the sentences of a page, the words of a command and how
-- a shell reads them, how to see a verdict again, and the page of a verdict; and that a shell reads
-- what a page shows.
pub mod Elements
pub mod TableElements
pub mod Outside
pub mod Documents
pub mod Wording
pub mod Evidence
pub mod Sentences
pub mod ShellWords
pub mod Repeats
pub mod VerdictPages
pub mod Laws
