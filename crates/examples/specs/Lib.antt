-- What an example wants of a run.
pub mod Comparisons
