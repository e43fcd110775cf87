-- What a reader must believe: what a run of the program answers.
pub mod Answers
