-- a shelf of logs of a given length
pub mod LongShelves
