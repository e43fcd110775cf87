use Rattle.continuous_drawing.specs.Marks.{mark_at_line}
use Rattle.page_plots.proofs.SeriesLemmas.{shapes-more}
use Rattle.continuous_drawing.proofs.marks.with_mark_at_lines.Goals as goal

pub loop-placed-preserved : goal.loop-placed-preserved
loop-placed-preserved c = shapes-more (mark_at_line c.args.orders.now c.args.number.now c.args.shown.now) c.args.made c.args.lines.now c.loop-placed.placed-index c.placed-item.result c.loop-placed-test.true c.placed-item.is _ _ c.loop-placed.invariant c.in_ok-made.ensures
