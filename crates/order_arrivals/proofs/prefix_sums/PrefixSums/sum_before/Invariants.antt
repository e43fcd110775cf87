use Rattle.order_arrivals.specs.PrefixSums.{IsSummedUpto}
use Rattle.order_arrivals.proofs.prefix_sums.PrefixSums.sum_before.Given as goal

abbrev pub invariant-loop-first : goal.invariant-loop-first
invariant-loop-first l = IsSummedUpto l.self l.index l.node l.first l.sum

abbrev pub decreases-loop-first : goal.decreases-loop-first
decreases-loop-first l = l.first
