use Rattle.volume_bound.proofs.LimitLemmas.{IsSumSoFar}
use Rattle.volume_bound.proofs.limits.total_of.Given as goal

abbrev pub invariant-loop-limit_quantity : goal.invariant-loop-limit_quantity
invariant-loop-limit_quantity l = IsSumSoFar l.limits l.limit_quantity-index l.sum
