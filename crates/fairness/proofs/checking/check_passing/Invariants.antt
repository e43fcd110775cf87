use Rattle.std.proofs.Common.{◌≡◌, None}
use Rattle.audit_base.specs.Least.{least_answer}
use Rattle.fairness.proofs.PassingLemmas.{unfair}
use Rattle.fairness.proofs.checking.check_passing.Given as goal

-- none of the deals so far passes over a short order
abbrev pub invariant-loop-deal : goal.invariant-loop-deal
invariant-loop-deal l = least_answer (unfair l.orders l.deals) l.deal-index ≡ None
