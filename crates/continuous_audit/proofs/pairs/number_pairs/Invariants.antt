use Rattle.std.proofs.Common.{take}
use Rattle.continuous_audit.specs.Pairs.{AreFillPairDeals}
use Rattle.continuous_audit.proofs.pairs.number_pairs.Given as goal

abbrev pub invariant-loop-i : goal.invariant-loop-i
invariant-loop-i l = AreFillPairDeals l.orders (take l.i l.pairs) l.deals.items
