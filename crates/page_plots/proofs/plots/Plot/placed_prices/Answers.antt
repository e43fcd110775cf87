use Rattle.std.proofs.Common.{[]}
use Rattle.page_plots.specs.Plots.{placed_price}
use Rattle.page_plots.proofs.SeriesLemmas.{shapes-next}
use Rattle.page_plots.proofs.plots.Plot.placed_prices.Goals as goal

pub loop-mark-preserved : goal.loop-mark-preserved
loop-mark-preserved c = shapes-next (placed_price c.args.self) [] c.args.marks.now c.loop-mark.mark-index _ c.loop-mark-test.true _ _ c.loop-mark.invariant c.in_ok-push_price.ensures
