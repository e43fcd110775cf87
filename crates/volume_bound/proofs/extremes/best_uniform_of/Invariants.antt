use Rattle.std.proofs.Common.{◌≡◌, take}
use Rattle.volume_bound.specs.Sides.{executable_of}
use Rattle.volume_bound.specs.Counting.{AreCountedSides}
use Rattle.volume_bound.proofs.ExtremeLemmas.{IsBest, More}
use Rattle.volume_bound.proofs.extremes.best_uniform_of.Given as goal

abbrev pub invariant-loop-ask : goal.invariant-loop-ask
invariant-loop-ask l = (IsBest More (executable_of l.sums) (λ x. x.limit) (take l.ask-index l.sums.asks) l.best) × AreCountedSides l.sums l.last × (l.last.cut.volume ≡ executable_of l.sums l.last.cut.price)
