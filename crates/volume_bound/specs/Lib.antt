-- What the public contracts cite, beside the demand, supply and cut of audit_base.
pub mod Laws
pub mod Limits
pub mod Sides
-- What private functions pass on.
pub mod Adding
pub mod Counting
pub mod Extremes
