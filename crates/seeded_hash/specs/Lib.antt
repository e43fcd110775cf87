pub mod Seeds
pub mod Blocks
pub mod Collisions
pub mod ShortPairs
