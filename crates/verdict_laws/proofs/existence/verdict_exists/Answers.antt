use Rattle.verdict_laws.proofs.ExistenceLemmas.{logs-verdict}
use Rattle.verdict_laws.proofs.existence.verdict_exists.Goals as goal

pub returns : goal.returns
returns c = logs-verdict c.a_rule_has_a_verdict.ensures
