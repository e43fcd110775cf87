-- What the public contracts cite, beside the order of a side that audit_base
-- defines: better, IsRanked.
pub mod Ranks
pub mod Sides
