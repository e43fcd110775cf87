pub mod AnswerLemmas
pub mod LawLemmas
