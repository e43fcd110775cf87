-- What a reader must believe, in the order in which it is read: what a command is, what a call
-- that runs one answers and writes, and what a command answers by a verdict.
pub mod Commands
pub mod Early
pub mod Runs
pub mod VerdictAnswers
pub mod InTurn
pub mod Laws
pub mod InMemory
pub mod Corollaries
-- What functions pass on to one another.
pub mod Deciding
pub mod Writing
