use Rattle.continuous_drawing.specs.Columns.{quote_shapes}
use Rattle.page_plots.proofs.SeriesLemmas.{shapes-more}
use Rattle.continuous_drawing.proofs.columns.with_all_quotes.Goals as goal

pub loop-column-preserved : goal.loop-column-preserved
loop-column-preserved c = shapes-more (quote_shapes c.args.plot) c.args.made c.args.columns.now c.loop-column.column-index c.column-item.result c.loop-column-test.true c.column-item.is _ _ c.loop-column.invariant c.in_ok-made.ensures
