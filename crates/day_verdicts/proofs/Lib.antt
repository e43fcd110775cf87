pub mod TellLemmas
pub mod CheckLemmas
pub mod GivenRecords
mod WalkSteps
pub mod VerdictSteps
pub mod OneDayLemmas
pub mod ShareTellingLemmas
