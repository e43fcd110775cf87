use Rattle.page_plots.specs.Plots.{placed_number}
use Rattle.page_plots.proofs.SeriesLemmas.{mapped-more}
use Rattle.page_plots.proofs.plots.Plot.placed_numbers.Goals as goal

pub loop-mark-preserved : goal.loop-mark-preserved
loop-mark-preserved c = mapped-more (placed_number c.args.self) c.args.marks.now c.loop-mark.mark-index _ c.loop-mark-test.true _ _ c.loop-mark.invariant c.in_ok-push_number.ensures
