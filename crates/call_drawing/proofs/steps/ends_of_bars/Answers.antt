use Rattle.std.specs.Prelude.{codes}
use Rattle.call_drawing.specs.Steps.{ends_of_bar}
use Rattle.page_plots.proofs.SeriesLemmas.{shapes-more}
use Rattle.call_drawing.proofs.steps.ends_of_bars.Goals as goal

pub loop-placed-preserved : goal.loop-placed-preserved
loop-placed-preserved c = shapes-more ends_of_bar (codes "M") c.args.steps.now c.loop-placed.placed-index c.placed-item.result c.loop-placed-test.true c.placed-item.is _ _ c.loop-placed.invariant c.in_ok-append_ends.ensures
