use Rattle.audit_base.proofs.VolumeLemmas.{volume-le-cut}
use Rattle.volume_bound.proofs.laws.cut_bounds_volume.Goals as goal

pub returns : goal.returns
returns c = volume-le-cut
