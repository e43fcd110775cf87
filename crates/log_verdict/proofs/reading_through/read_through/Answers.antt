use Rattle.std.proofs.Common.{ap, Err}
use Rattle.log_verdict.specs.Steps.{reading_by}
use Rattle.log_verdict.proofs.JoinLemmas.{follows, gives-after, keeps-both, later-after, orders-unread, orders-within, stays-within}
use Rattle.log_verdict.proofs.reading_through.read_through.Goals as goal

pub returns-in-Ok-clause-logs : goal.returns-in-Ok-clause-logs
returns-in-Ok-clause-logs g c =
    keeps-both g.F.Shelf c.args.shelf.now c.collect_orders.new.shelf c.read_trades_through.new.shelf c.in-Ok.ensures.logs c.read_trades_through.ensures.logs

pub returns-in-Ok-clause-decides : goal.returns-in-Ok-clause-decides
returns-in-Ok-clause-decides g c =
    let is = c.in-Ok.ensures.read in
    gives-after _ _ (follows g.F.Shelf c.args.orders.now c.args.trades.now c.args.shelf.now c.collect_orders.new.shelf c.read_trades_through.new.shelf c.requires.limit c.in-Ok.ensures.logs c.in-Ok.ensures.only c.read_trades_through.ensures.only)
    (λ entries paired given. Unit {0}) c.args.orders.now c.args.trades.now is.holds.entries c.read_trades_through.result
    (record { bytes = is.bytes; read = is.read; holds = is.holds.reads })
    (c.read_trades_through.ensures.decides)

pub returns-in-Ok-clause-later : goal.returns-in-Ok-clause-later
returns-in-Ok-clause-later g c =
    later-after _ _ (follows g.F.Shelf c.args.orders.now c.args.trades.now c.args.shelf.now c.collect_orders.new.shelf c.read_trades_through.new.shelf c.requires.limit c.in-Ok.ensures.logs c.in-Ok.ensures.only c.read_trades_through.ensures.only)
    c.in-Ok.ensures.only.later c.read_trades_through.ensures.only.later

pub returns-in-Ok-clause-within : goal.returns-in-Ok-clause-within
returns-in-Ok-clause-within g c =
    stays-within _ _ (follows g.F.Shelf c.args.orders.now c.args.trades.now c.args.shelf.now c.collect_orders.new.shelf c.read_trades_through.new.shelf c.requires.limit c.in-Ok.ensures.logs c.in-Ok.ensures.only c.read_trades_through.ensures.only)
    c.read_trades_through.result (c.in-Ok.ensures.within (λ e. cc)) (λ _. c.read_trades_through.ensures.within)

pub returns-in-Err-clause-decides : goal.returns-in-Err-clause-decides
returns-in-Err-clause-decides g c =
    rw c.at.ensures
    (orders-unread (reading_by c.args.orders.now g.F.Shelf c.args.shelf.now c.collect_orders.new.shelf) c.args.orders.now c.args.trades.now c.in-Err.unread c.in-Err.ensures.read c.in-Err.ensures.only.other)

pub returns-in-Err-clause-within : goal.returns-in-Err-clause-within
returns-in-Err-clause-within g c =
    orders-within {T = Unit {0}} (reading_by c.args.orders.now g.F.Shelf c.args.shelf.now c.collect_orders.new.shelf) c.in-Err.unread (Err c.at.result) (ap Err c.at.ensures)
    (λ other. c.in-Err.ensures.within (λ e. other (cc))) c.in-Err.ensures.only.other
