pub mod CountLemmas
pub mod CsvLemmas
pub mod FactLemmas
pub mod KeyLemmas
pub mod LineLemmas
pub mod MessageFeedLemmas
pub mod MessageLemmas
pub mod SpanLemmas
pub mod SumLemmas
pub mod TextLemmas
pub mod ValueLemmas
mod ReadLemmas
