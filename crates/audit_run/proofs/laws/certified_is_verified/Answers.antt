use Rattle.audit_run.proofs.CertificateLawLemmas.{certified-verified}
use Rattle.audit_run.proofs.laws.certified_is_verified.Goals as goal

pub returns : goal.returns
returns c = certified-verified
