-- Part 1. What a reader must believe: the row of a case, its numbers, the state of a keeper over a
-- database, and the laws of the rows.
pub mod Codes
pub mod CaseRows
pub mod Laws
pub mod Faults
pub mod SqlKeepers
pub mod Statements
pub mod Runs
-- Part 2. What the private functions pass on: rows read column by column.
pub mod Readings
