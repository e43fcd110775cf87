-- What a reader must believe: a log as a text in either form, what holds of every log that is
-- written, the generated log as a text, what is written of it, and what holds of it.
pub mod Texts
pub mod Laws
pub mod GeneratedTexts
pub mod GeneratedLaws
-- What private functions pass on to one another.
pub mod MessageLogs
pub mod GeneratedBlocks
