use Rattle.std.proofs.Common.{length, ap, arith, refl}
use Rattle.std.proofs.lemmas.List.{take_all}
use Rattle.volume_bound.specs.Sides.{cut_of}
use Rattle.volume_bound.proofs.ExtremeLemmas.{least-more, least-found}
use Rattle.volume_bound.proofs.extremes.least_cut_of.Goals as goal

pub loop-bid-preserved : goal.loop-bid-preserved
loop-bid-preserved c =
    let limits = c.args.sums.now.bids in (
      least-more (cut_of c.args.sums.now) limits c.loop-bid.bid-index c.bid-item.result (omega (arith, ap length c.bids-bid-items.ensures)) (rw (← c.bids-bid-items.ensures) c.bid-item.is) c.units.ensures.in_range c.loop-bid.best c.cut_after-last-in-loop-bid.result.cut c.smaller_cut-best.result c.loop-bid.invariant.0 (rw (← c.units.ensures.same) c.cut_after-last-in-loop-bid.ensures.same) c.smaller_cut-best.ensures,
      c.cut_after-last-in-loop-bid.ensures.counted,
      rw c.cut_after-last-in-loop-bid.ensures.same refl,
    )

pub returns-clause-least : goal.returns-clause-least
returns-clause-least c orders stands =
    let limits = c.args.sums.now.bids in
    let all = take_all c.loop-bid.bid-index limits (omega (arith, ap length c.bids-bid-items.ensures)) in
    least-found orders c.args.sums.now stands c.loop-bid.best (rw all at c.loop-bid.invariant.0)
