mod RankedLemmas
mod ShortLemmas
