use Rattle.std.proofs.Common.{take}
use Rattle.unit_pairs.specs.Numbering.{AreUnitPairDeals}
use Rattle.unit_pairs.proofs.numbering.number_pairs.Given as goal

abbrev pub invariant-loop-i : goal.invariant-loop-i
invariant-loop-i l = AreUnitPairDeals l.orders l.price (take l.i l.pairs) l.deals.items
