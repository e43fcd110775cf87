-- What a reader must believe, in the order in which it is read: what a call answers, writes and
-- leaves on file; what one command leaves, and that it is one; what was read of the logs; whose
-- digests stand beside a verdict; what opens databases; the words and the lines.
pub mod Runs
pub mod Turns
pub mod Laws
pub mod Causes
pub mod DigestedVerdicts
pub mod DigestOpeners
pub mod Words
pub mod Lines
-- What private functions pass on to one another, and the opener in memory.
pub mod Steps
pub mod Judging
pub mod Days
pub mod MemoryOpeners
