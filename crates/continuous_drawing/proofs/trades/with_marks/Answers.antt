use Rattle.continuous_drawing.specs.Trades.{trade_shapes}
use Rattle.page_plots.proofs.SeriesLemmas.{shapes-more}
use Rattle.continuous_drawing.proofs.trades.with_marks.Goals as goal

pub loop-deal-preserved : goal.loop-deal-preserved
loop-deal-preserved c = shapes-more (trade_shapes c.args.plot c.args.orders.now) c.args.made c.args.deals.now c.loop-deal.deal-index c.deal-item.result c.loop-deal-test.true c.deal-item.is _ _ c.loop-deal.invariant c.in_ok-made.ensures
