mod TextLemmas
pub mod OrderLemmas
