pub mod FieldLemmas
pub mod LineLemmas
pub mod UnquotedLemmas
pub mod LogLemmas
pub mod SizeLemmas
pub mod ReadingLemmas
pub mod FeedLemmas
pub mod WrittenLemmas
pub mod RecordLemmas
pub mod ReaderLemmas
pub mod PricedLemmas
pub mod SymbolLemmas
mod ClosedLemmas
pub mod RangeLemmas
