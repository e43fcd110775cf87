use Rattle.call_drawing.specs.Marks.{mark_at_step}
use Rattle.page_plots.proofs.SeriesLemmas.{shapes-more}
use Rattle.call_drawing.proofs.marks.with_mark_at_steps.Goals as goal

pub loop-placed-preserved : goal.loop-placed-preserved
loop-placed-preserved c = shapes-more (mark_at_step c.args.orders.now c.args.by_limit c.args.mark.now.number.now c.args.mark.now.line.now) c.args.made c.args.steps.now c.loop-placed.placed-index c.placed-item.result c.loop-placed-test.true c.placed-item.is _ _ c.loop-placed.invariant c.in_ok-made.ensures
