use Rattle.written_logs.proofs.LawLemmas.{same-verdict}
use Rattle.written_logs.proofs.laws.written_logs_have_the_verdict.Goals as goal

pub returns : goal.returns
returns c = same-verdict c.forms_agree.ensures
