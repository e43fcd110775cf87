use Rattle.call_laws.proofs.FairLemmas.{fair-volume-fixes}
use Rattle.fairness.proofs.laws.fair_volume_fixes_quantities.Goals as goal

pub returns : goal.returns
returns c = fair-volume-fixes
