use Rattle.audit_certificate.proofs.SoundLemmas.{soundness}
use Rattle.audit_certificate.proofs.laws.certificate_soundness.Goals as goal

pub returns : goal.returns
returns c = soundness c.cut_bounds_volume.ensures c.uniform_optimum.ensures.bounded
