use Rattle.std.proofs.Common.{length, ap, arith, refl}
use Rattle.std.proofs.lemmas.List.{take_all}
use Rattle.volume_bound.specs.Sides.{executable_of}
use Rattle.volume_bound.proofs.ExtremeLemmas.{greatest-more, greatest-found}
use Rattle.volume_bound.proofs.extremes.best_uniform_of.Goals as goal

pub loop-ask-preserved : goal.loop-ask-preserved
loop-ask-preserved c =
    let limits = c.args.sums.now.asks in (
      greatest-more (executable_of c.args.sums.now) limits c.loop-ask.ask-index c.ask-item.result (omega (arith, ap length c.asks-ask-items.ensures)) (rw (← c.asks-ask-items.ensures) c.ask-item.is) c.units.ensures.in_range c.loop-ask.best c.executable_after-last-in-loop-ask.result.cut c.greater_cut-best.result c.loop-ask.invariant.0 (rw (← c.units.ensures.same) c.executable_after-last-in-loop-ask.ensures.same) c.greater_cut-best.ensures,
      c.executable_after-last-in-loop-ask.ensures.counted,
      rw c.executable_after-last-in-loop-ask.ensures.same refl,
    )

pub returns-clause-best : goal.returns-clause-best
returns-clause-best c orders stands =
    let limits = c.args.sums.now.asks in
    let all = take_all c.loop-ask.ask-index limits (omega (arith, ap length c.asks-ask-items.ensures)) in
    greatest-found orders c.args.sums.now stands c.loop-ask.best (rw all at c.loop-ask.invariant.0)
