use Rattle.page_plots.specs.PlotAxes.{number_tick}
use Rattle.page_plots.proofs.SeriesLemmas.{shapes-next}
use Rattle.page_plots.proofs.plot_axes.with_number_ticks.Goals as goal

pub loop-tick-preserved : goal.loop-tick-preserved
loop-tick-preserved c = shapes-next number_tick c.args.made c.args.ticks.now c.loop-tick.tick-index _ c.loop-tick-test.true _ _ c.loop-tick.invariant c.in_ok-made.ensures
