-- What a reader must believe: cases and filters, the state of a keeper, and what the public
-- calls say of them.
pub mod Cases
pub mod Keepers
pub mod Casebooks
-- The state of the keeper in memory.
pub mod MapKeepers
-- What private functions pass on.
pub mod IndexedCases
