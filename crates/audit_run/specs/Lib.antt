-- What a reader must believe, in the order in which it is read: what `run` says, what a run
-- answers and writes, and what each command reads and answers.
pub mod TopCall
pub mod Runs
pub mod Requests
pub mod OtherTexts
pub mod Certificates
pub mod Sessions
pub mod Laws
pub mod AnswerIsOne
pub mod ExpectedTrades
-- What private functions pass on to one another.
pub mod Deciding
pub mod JudgedAnswers
pub mod OneLog
pub mod Expecting
