mod PageLemmas
mod ReadLemmas
mod DecideLemmas
mod TopLemmas
mod AskLemmas
