mod TableLemmas
mod PairLineLemmas
mod JudgeLemmas
mod RuleLemmas
mod VerdictLemmas
mod LawLemmas
mod ExistenceLemmas
