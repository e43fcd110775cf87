use Rattle.audit_run.proofs.AcceptLemmas.{generate-writes}
use Rattle.audit_run.proofs.laws.generate_writes.Goals as goal

pub returns : goal.returns
returns c = generate-writes
