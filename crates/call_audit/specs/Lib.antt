-- What the public contracts cite.
pub mod Audits
pub mod FairMatchings
-- What private functions pass on.
pub mod Dues
pub mod Outcomes
