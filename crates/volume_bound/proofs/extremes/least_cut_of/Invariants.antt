use Rattle.std.proofs.Common.{◌≡◌, ◌+◌, take}
use Rattle.volume_bound.specs.Sides.{cut_of}
use Rattle.volume_bound.specs.Counting.{AreCountedSides}
use Rattle.volume_bound.proofs.ExtremeLemmas.{IsBest, Less}
use Rattle.volume_bound.proofs.extremes.least_cut_of.Given as goal

abbrev pub invariant-loop-bid : goal.invariant-loop-bid
invariant-loop-bid l = (IsBest Less (cut_of l.sums) (λ x. x.limit + 1) (take l.bid-index l.sums.bids) l.best) × AreCountedSides l.sums l.last × (l.last.cut.volume ≡ cut_of l.sums l.last.cut.price)
