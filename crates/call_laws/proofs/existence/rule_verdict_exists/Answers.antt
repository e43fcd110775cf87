use Rattle.call_laws.proofs.ExistenceLemmas.{verdict}
use Rattle.call_laws.proofs.existence.rule_verdict_exists.Goals as goal

pub returns : goal.returns
returns c = verdict
