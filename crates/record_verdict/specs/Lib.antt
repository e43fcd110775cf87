-- What a reader must believe: what is judged of the records of two logs, what of it a reading
-- needs to know, and the laws.
pub mod RecordVerdicts
pub mod RecordVerdict
pub mod Scopes
pub mod Laws
pub mod Existence
-- What functions pass on to one another.
pub mod BeforeRule
pub mod Stages
pub mod Tables
