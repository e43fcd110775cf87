-- What a reader must believe: the verdict on the bytes of two logs, and what a call knows of the
-- shelf that it read them from.
pub mod LogVerdicts
pub mod Laws
pub mod Ranges
pub mod Existence
pub mod Steps
-- What functions pass on to one another: one log, and two.
pub mod Collecting
pub mod BothLogs
