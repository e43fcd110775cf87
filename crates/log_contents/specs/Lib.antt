-- What a reader must believe: what the contents of a log are, by counts and first appearances, what
-- an order log and a trade log have, and what came of reading one.
pub mod Contents
pub mod Counts
pub mod Facts
pub mod Kinds
pub mod Laws
pub mod MessageFeeds
pub mod Summaries
pub mod Texts
pub mod ToldLines
pub mod DayItems
pub mod DayReading
