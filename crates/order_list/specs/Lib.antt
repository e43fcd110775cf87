-- What public contracts cite.
pub mod Changed
pub mod KeptSeen
pub mod Keys
pub mod Stored
-- What the crates above pass on.
pub mod Sums
