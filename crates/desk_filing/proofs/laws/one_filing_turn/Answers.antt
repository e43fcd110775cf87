use Rattle.desk_filing.proofs.OneTurnLemmas as one
use Rattle.desk_filing.proofs.laws.one_filing_turn.Goals as goal

pub returns : goal.returns
returns c = one.one_filing_turn c.record_verdict_is_one.ensures c.verdicts_are_one.ensures
