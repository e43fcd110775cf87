-- What a reader must believe: what the opener over files refuses and asks of the system, and what a
-- call that closes its database answers.
pub mod FileDigestOpeners
pub mod ClosedFilings
