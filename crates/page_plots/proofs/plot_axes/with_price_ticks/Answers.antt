use Rattle.page_plots.specs.PlotAxes.{price_tick}
use Rattle.page_plots.proofs.SeriesLemmas.{shapes-more}
use Rattle.page_plots.proofs.plot_axes.with_price_ticks.Goals as goal

pub loop-tick-preserved : goal.loop-tick-preserved
loop-tick-preserved c = shapes-more price_tick c.args.made c.args.ticks.now c.loop-tick.tick-index c.tick-item.result c.loop-tick-test.true c.tick-item.is _ _ c.loop-tick.invariant c.in_ok-made.ensures
