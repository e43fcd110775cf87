use Rattle.log_verdict.proofs.LawLemmas.{forms-agree}
use Rattle.log_verdict.proofs.laws.forms_agree.Goals as goal

pub returns : goal.returns
returns c = forms-agree c.record_verdict_is_one.ensures
