mod ActiveLemmas
mod BookLemmas
mod BookAtLemmas
mod WalkLemmas
mod RangeLemmas
mod PriceLemmas
mod RowLemmas
mod PictureLemmas
