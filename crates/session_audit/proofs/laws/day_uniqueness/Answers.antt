use Rattle.session_audit.proofs.UniqueLemmas.{day-unique, day-pairs}
use Rattle.session_audit.proofs.laws.day_uniqueness.Goals as goal

pub returns-clause-quantities : goal.returns-clause-quantities
returns-clause-quantities c = day-unique c.fair_volume_fixes_quantities.ensures c.continuous_uniqueness.ensures.pairs

pub returns-clause-pairs : goal.returns-clause-pairs
returns-clause-pairs c = day-pairs c.fair_volume_fixes_quantities.ensures c.continuous_uniqueness.ensures.pairs
