use Rattle.std.proofs.Common.{◌≡◌, None}
use Rattle.audit_base.specs.Least.{least_answer}
use Rattle.further_checks.specs.FurtherRules.{further_finding}
use Rattle.further_checks.proofs.checking.first_further_finding.Given as goal

-- none of the deals so far fails
abbrev pub invariant-loop-index : goal.invariant-loop-index
invariant-loop-index l = least_answer (further_finding l.checks l.orders l.deals l.times) l.index ≡ None
