-- What the files in memory hold that the tests read.
pub mod StoredFiles
