use Rattle.verdict_laws.proofs.ExistenceLemmas.{rule-verdict}
use Rattle.verdict_laws.proofs.existence.a_rule_has_a_verdict.Goals as goal

pub returns : goal.returns
returns c = rule-verdict c.rule_verdict_exists.ensures
