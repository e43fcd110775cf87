-- What a reader must believe: what the digest of a log is, what a shelf that takes digests has
-- taken, and how digests are written and read.
pub mod Digests
pub mod DigestShelves
pub mod DigestDigits
pub mod DigestLines
