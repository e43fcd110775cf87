use Rattle.further_checks.proofs.FurtherLemmas.{begin_with_the_first}
use Rattle.further_checks.proofs.laws.further_findings_begin_with_the_first.Goals as goal

pub returns : goal.returns
returns c = begin_with_the_first
