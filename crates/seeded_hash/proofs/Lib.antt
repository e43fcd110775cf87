mod CollisionLemmas
pub mod ShortPairLemmas
