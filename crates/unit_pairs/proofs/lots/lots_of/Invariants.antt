use Rattle.unit_pairs.proofs.LotLemmas.{AreFilled}
use Rattle.unit_pairs.proofs.lots.lots_of.Given as goal

abbrev pub invariant-loop-rank : goal.invariant-loop-rank
invariant-loop-rank l = AreFilled l.orders l.ranks l.volume l.lots.items l.left l.rank-index
