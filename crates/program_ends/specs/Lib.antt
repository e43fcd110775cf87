-- What a reader must believe: the words of a command line, what the shelf and the sink of a
-- program are before its run, and what a program answers.
pub mod CommandLines
pub mod FreshEnds
pub mod ProgramAnswers
