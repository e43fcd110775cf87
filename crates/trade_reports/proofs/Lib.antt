mod FirstLemmas
mod PairLemmas
mod AgainLemmas
mod RangeLemmas
