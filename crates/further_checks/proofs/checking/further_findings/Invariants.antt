use Rattle.std.proofs.Common.{◌≡◌}
use Rattle.offence_list.specs.Answers.{answers_below}
use Rattle.further_checks.specs.FurtherRules.{further_finding}
use Rattle.further_checks.proofs.checking.further_findings.Given as goal

abbrev pub invariant-loop-index : goal.invariant-loop-index
invariant-loop-index l = l.found.items ≡ answers_below (further_finding l.checks l.orders l.deals l.times) l.index
