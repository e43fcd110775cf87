-- What a reader must believe: the rows of digests, the statements, and what the calls run.
pub mod DigestRows
pub mod DigestStatements
pub mod DigestRuns
pub mod SqlDigestKeepers
