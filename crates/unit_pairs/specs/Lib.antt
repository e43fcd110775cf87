-- What the public contracts cite, besides the Expected trades of audit_base and the
-- ranks of rank_order.
pub mod Volumes
-- What private functions pass on.
pub mod Lots
pub mod Meeting
pub mod Numbering
pub mod Sides
