mod FoundLemmas
mod InsideLemmas
mod KeeperLemmas
