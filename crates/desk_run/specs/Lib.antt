-- What a reader must believe, in the order in which it is read: what `run_desk` says, and what
-- each command reads and answers.
pub mod TopCall
pub mod Requests
pub mod Contents
pub mod PlainAnswers
pub mod PlainMessages
pub mod WrittenLogs
-- What private functions pass on to one another.
pub mod Deciding
pub mod Digesting
pub mod PlainWriting
pub mod Converting
