use Rattle.case_run.proofs.OnePlayLemmas as one
use Rattle.case_run.proofs.laws.one_play.Goals as goal

pub returns : goal.returns
returns c = one.one_play c.one_verdict.ensures
