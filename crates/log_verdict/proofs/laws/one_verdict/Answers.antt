use Rattle.log_verdict.proofs.LawLemmas.{one-verdict}
use Rattle.log_verdict.proofs.laws.one_verdict.Goals as goal

pub returns : goal.returns
returns c = one-verdict c.record_verdict_is_one.ensures
