-- Part 1. What a reader must believe: the public contracts and laws cite these.
-- the plain text of bodies, and of a day
pub mod PlainTexts
-- the feeds of a day that give its text as they are handed its bytes
pub mod DayFeeds
-- what is read of a day whose lines are read alone
pub mod LinesAlone
pub mod BadReports
-- the same where each line is read alone
pub mod AloneFeeds
-- what is written of a log of a shelf
pub mod PlainLogs
-- what holds of every day
pub mod Laws
-- Part 2. What the private functions pass on to one another.
pub mod Passing
pub mod Writers
