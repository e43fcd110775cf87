use Rattle.record_verdict.proofs.TableLemmas.{lines-more}
use Rattle.record_verdict.proofs.tables.order_lines.Goals as goal

pub loop-index-preserved : goal.loop-index-preserved
loop-index-preserved c =
    lines-more c.args.orders.now c.args.traded.now c.loop-index.index c.loop-index.lines.items _ c.at.result c.at.ensures c.loop-index.invariant c.in_ok-push_line.ensures
