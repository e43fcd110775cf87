use Rattle.audit_base.proofs.VerdictLemmas.{one-verdict}
use Rattle.verdict_laws.proofs.existence.verdict_is_the_only_one.Goals as goal

pub returns : goal.returns
returns c = one-verdict
