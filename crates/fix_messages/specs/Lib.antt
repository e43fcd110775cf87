-- Part 1. What a reader must believe: the public contracts and laws cite these.

-- what one message means, by the table of its type
pub mod Rows
pub mod OrderTables
pub mod ReportTable
-- what a body says, and a log; what a feed stands for
pub mod BodyFields
pub mod Bodies
pub mod Logs
pub mod Feeds
-- each body says one thing, and each log is read in one way, with numbers in range
pub mod Laws
-- how reports are paired, and records written
pub mod Pairings
pub mod Written
-- Part 2. What the private functions pass on to one another.
pub mod Steps
-- orders whose names are in a message
pub mod OrderTexts
