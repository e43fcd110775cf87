pub mod TagLemmas
pub mod LogLemmas
pub mod FeedLemmas
mod PartLemmas
pub mod BodyLemmas
pub mod SayLemmas
pub mod ReadingLemmas
pub mod SizeLemmas
pub mod WrittenLemmas
pub mod MeaningLemmas
pub mod AgainLemmas
pub mod PricedLemmas
pub mod RangeLemmas
