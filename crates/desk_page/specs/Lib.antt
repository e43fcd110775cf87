-- What a reader must believe: what words ask of `page`, which page answers two logs, what a call
-- writes, and that the words on a page ask for its verdict.
pub mod Words
pub mod PageLogs
pub mod PageAnswers
pub mod Requests
pub mod TopCall
pub mod Laws
-- What functions pass on to one another.
pub mod Telling
