-- What a reader must believe: which calls are made of the system, how a database is opened by its
-- path and closed, which file is its log, what the opener over files refuses, and what a run that
-- closes its casebook answers.
pub mod SystemCalls
pub mod DatabaseFiles
pub mod Databases
pub mod FileOpeners
pub mod ClosedRuns
