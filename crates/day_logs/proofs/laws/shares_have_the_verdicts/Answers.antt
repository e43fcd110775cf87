use Rattle.day_logs.proofs.LawLemmas.{shares-have-verdicts}
use Rattle.day_logs.proofs.laws.shares_have_the_verdicts.Goals as goal

pub returns : goal.returns
returns c = shares-have-verdicts c.record_verdict_is_one.ensures
