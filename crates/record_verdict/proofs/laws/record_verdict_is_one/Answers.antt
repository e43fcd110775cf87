use Rattle.record_verdict.proofs.LawLemmas.{one-judged}
use Rattle.record_verdict.proofs.laws.record_verdict_is_one.Goals as goal

pub returns : goal.returns
returns c = one-judged
