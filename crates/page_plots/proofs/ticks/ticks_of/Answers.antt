use Rattle.std.proofs.Common.{arith}
use Rattle.page_plots.proofs.TickLemmas.{first-reach, reached-first, ticks-all, ticks-more, ticks-start}
use Rattle.page_plots.proofs.ticks.ticks_of.Goals as goal

pub loop-times-init : goal.loop-times-init
loop-times-init c =
    let at = reached-first c.args.first c.args.step c.requires.some in
    let order = c.requires.order in (
      ticks-start c.args.first c.args.last c.args.step _ c.new-ticks.result.items c.new-ticks.ensures.items (first-reach c.args.first c.args.step c.requires.some),
      omega (arith, at.1, order),
      at.0,
    )

pub loop-times-preserved : goal.loop-times-preserved
loop-times-preserved c =
    let upto = c.loop-times-test.true in (
      ticks-more c.args.first c.args.last c.args.step c.loop-times.times c.loop-times.ticks.items c.push_tick.new.ticks.items c.requires.some c.loop-times.invariant.2 upto c.loop-times.invariant.0 c.in_ok-push_tick.ensures,
      omega (arith, upto),
      omega (arith, c.loop-times.invariant.2),
    )

pub returns : goal.returns
returns c = ticks-all c.args.first c.args.last c.args.step c.loop-times.times c.loop-times.ticks.items c.loop-times.invariant.0 c.loop-times-test.false
