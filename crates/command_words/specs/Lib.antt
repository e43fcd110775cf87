-- What a reader must believe: what words ask for, command by command, and before it what their
-- parts are: single words, options, and the phases of a day.
pub mod Words
pub mod WordForms
pub mod Options
pub mod PhaseWords
