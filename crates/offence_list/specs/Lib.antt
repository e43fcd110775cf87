-- What a reader must believe: what an offence is, the list of a log, its laws, and its text.
pub mod Answers
pub mod ListedOffences
pub mod CallLists
pub mod ContinuousLists
pub mod Offences
pub mod Laws
pub mod OffenceTexts
