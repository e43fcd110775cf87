use Rattle.call_drawing.specs.Steps.{step_shapes}
use Rattle.page_plots.proofs.SeriesLemmas.{shapes-more}
use Rattle.call_drawing.proofs.steps.with_steps.Goals as goal

pub loop-placed-preserved : goal.loop-placed-preserved
loop-placed-preserved c = shapes-more (step_shapes c.args.orders.now c.args.side c.args.by_limit) c.args.made c.args.steps.now c.loop-placed.placed-index c.placed-item.result c.loop-placed-test.true c.placed-item.is _ _ c.loop-placed.invariant c.in_ok-made.ensures
