mod ListingLemmas
mod PassedLemmas
