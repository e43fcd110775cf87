use Rattle.further_checks.proofs.FurtherLemmas.{none-fails}
use Rattle.further_checks.proofs.laws.nothing_is_found_unasked.Goals as goal

pub returns : goal.returns
returns c = none-fails
