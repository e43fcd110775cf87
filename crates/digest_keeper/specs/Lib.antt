-- What a reader must believe: cases with digests, the state of a keeper, and what its calls say.
pub mod KeptCases
pub mod DigestKeepers
-- The state of the keeper in memory.
pub mod MemoryKeepers
