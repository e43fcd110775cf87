-- Part 1. What a reader must believe: the public contracts and laws cite these.
-- what is read of a framed day, what its feed stands for, and what it answers
pub mod Framed
pub mod Answers
pub mod Feeds
-- what is read of a day on lines
pub mod Lines
pub mod LineFeeds
-- what is read of a day on lines where bad messages are passed over
pub mod LinesAlone
-- what was read of a day that may go on
pub mod Fronts
-- what holds of every day
pub mod Laws
-- Part 2. What the private functions pass on to one another.
pub mod Messages
pub mod Starts
pub mod Searches
pub mod Runs
pub mod Undressings
pub mod Looks
pub mod LineSteps
