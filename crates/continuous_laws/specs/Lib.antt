-- What a reader must believe: the laws, and how a size fills what rests.
pub mod Fills
pub mod Laws
-- What the proofs pass on.
pub mod Accounts
