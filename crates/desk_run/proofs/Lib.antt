mod ContentsLemmas
mod DayLemmas
mod DigestLemmas
mod GeneratedLemmas
mod HeadlineLemmas
mod OffenceLemmas
mod PlainLemmas
mod WrittenLemmas
