mod EndLemmas
pub mod MarkLemmas
pub mod FindLemmas
pub mod GrammarLemmas
pub mod LawLemmas
pub mod ReadingLemmas
pub mod HandLemmas
pub mod RefusalLemmas
pub mod SearchLemmas
pub mod TagLemmas
pub mod PlaceLemmas
pub mod NoteLemmas
pub mod ShortTagLemmas
