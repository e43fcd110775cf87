mod EscapeLemmas
mod TreeLemmas
mod NameLemmas
