use Rattle.continuous_drawing.specs.Books.{line_shapes}
use Rattle.page_plots.proofs.SeriesLemmas.{shapes-more}
use Rattle.continuous_drawing.proofs.books.with_book.Goals as goal

pub loop-placed-preserved : goal.loop-placed-preserved
loop-placed-preserved c = shapes-more (line_shapes c.args.orders.now c.args.side) c.args.made c.args.lines.now c.loop-placed.placed-index c.placed-item.result c.loop-placed-test.true c.placed-item.is _ _ c.loop-placed.invariant c.in_ok-made.ensures
