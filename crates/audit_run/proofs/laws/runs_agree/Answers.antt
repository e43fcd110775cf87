use Rattle.audit_run.proofs.OneAnswerLemmas.{runs-agree}
use Rattle.audit_run.proofs.laws.runs_agree.Goals as goal

pub returns : goal.returns
returns c = runs-agree c.calls_agree.ensures c.answer_is_one.ensures
