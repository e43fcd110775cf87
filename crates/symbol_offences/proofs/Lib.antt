mod KeptLemmas
mod TakenLemmas
mod ReadLemmas
mod PlaceLemmas
mod TextLemmas
mod RuleLemmas
mod AbsenceLemmas
mod AnswerLemmas
