use Rattle.continuous_drawing.specs.Columns.{trade_range}
use Rattle.page_plots.proofs.SeriesLemmas.{shapes-more}
use Rattle.continuous_drawing.proofs.columns.with_trade_ranges.Goals as goal

pub loop-column-preserved : goal.loop-column-preserved
loop-column-preserved c = shapes-more (trade_range c.args.plot) c.args.made c.args.columns.now c.loop-column.column-index c.column-item.result c.loop-column-test.true c.column-item.is _ _ c.loop-column.invariant c.in_ok-made.ensures
