use Rattle.audit_certificate.proofs.OneLemmas.{one-certificate}
use Rattle.audit_certificate.proofs.one_answer.one_certificate.Goals as goal

pub returns : goal.returns
returns c = one-certificate
