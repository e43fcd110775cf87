-- What a reader must believe, in the order in which it is read: what a run of commands answers,
-- writes and leaves of the cases; its trace, and what was read of the logs; the same over the
-- casebook that a path names; Play; the commands and their words; the lines and the statuses.
pub mod Runs
pub mod Traces
pub mod Causes
pub mod NamedCasebooks
pub mod Openers
pub mod Play
pub mod Laws
pub mod Commands
pub mod Lines
pub mod Statuses
pub mod Writing
-- What private functions pass on to one another.
pub mod MapOpeners
pub mod Turns
