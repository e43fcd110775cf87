mod AnswerLemmas
mod CodeLemmas
mod KeeperLemmas
mod RowLemmas
pub mod RunLemmas
