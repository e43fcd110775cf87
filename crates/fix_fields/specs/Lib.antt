-- Part 1. What a reader must believe: the public contracts and laws cite these.

-- the field syntax of a body, from its smallest parts up
pub mod Forms
pub mod Pairs
pub mod Grammar
-- where the values are, why a body is refused, how a tag is looked up
pub mod Ranges
pub mod Refusals
pub mod TagSearch
pub mod TagNotes
-- fields that are read again as they were written
pub mod Ordinary
-- Part 2. What the private functions pass on to one another.
pub mod FieldAt
pub mod Marks
pub mod Ends
