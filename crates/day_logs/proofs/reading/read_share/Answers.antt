use Rattle.std.proofs.Common.{ap, sym, subst, Err}
use Rattle.day_records.specs.DayOrders.{HasOrders}
use Rattle.day_symbols.specs.Shares.{DayShare}
use Rattle.day_logs.specs.declared.before_rule.DayBeforeRule.{DayBeforeRule}
use Rattle.log_verdict.specs.Steps.{reading_by}
use Rattle.day_logs.specs.DayBeforeRule.{IsDayBeforeRule}
use Rattle.log_verdict.proofs.JoinLemmas.{follows, gives-after, keeps-both, later-after, orders-unread, orders-within, stays-within}
use Rattle.day_logs.proofs.reading.read_share.Goals as goal

pub after_orders-requires-clause-some : goal.after_orders-requires-clause-some
after_orders-requires-clause-some g c =
    let place = c.in-Ok.ensures.fits_places in
    (place.entries, subst (λ (share : DayShare). HasOrders share c.end.result place.entries) (sym c.requires.share) (c.end.ensures place.entries place.has))

pub returns-in-Ok-clause-logs : goal.returns-in-Ok-clause-logs
returns-in-Ok-clause-logs g c =
    keeps-both g.F.Shelf c.args.shelf.now c.collect_orders.new.shelf c.after_orders.new.shelf c.in-Ok.ensures.logs c.after_orders.ensures.logs

pub returns-in-Ok-clause-decides : goal.returns-in-Ok-clause-decides
returns-in-Ok-clause-decides g c =
    let is = c.in-Ok.ensures.read in
    gives-after _ _ (follows g.F.Shelf c.args.orders.now c.args.trades.now c.args.shelf.now c.collect_orders.new.shelf c.after_orders.new.shelf c.requires.limit c.in-Ok.ensures.logs c.in-Ok.ensures.only c.after_orders.ensures.only)
    (IsDayBeforeRule c.args.share c.args.admission) c.args.orders.now c.args.trades.now is.holds.entries c.after_orders.result
    (record { bytes = is.bytes; read = is.read; holds = is.holds.reads })
    (c.after_orders.ensures.decides is.holds.entries (subst (λ (share : DayShare). HasOrders share c.end.result is.holds.entries) (sym c.requires.share) (c.end.ensures is.holds.entries is.holds.has)))

pub returns-in-Ok-clause-later : goal.returns-in-Ok-clause-later
returns-in-Ok-clause-later g c =
    later-after _ _ (follows g.F.Shelf c.args.orders.now c.args.trades.now c.args.shelf.now c.collect_orders.new.shelf c.after_orders.new.shelf c.requires.limit c.in-Ok.ensures.logs c.in-Ok.ensures.only c.after_orders.ensures.only)
    c.in-Ok.ensures.only.later c.after_orders.ensures.only.later

pub returns-in-Ok-clause-within : goal.returns-in-Ok-clause-within
returns-in-Ok-clause-within g c =
    stays-within _ _ (follows g.F.Shelf c.args.orders.now c.args.trades.now c.args.shelf.now c.collect_orders.new.shelf c.after_orders.new.shelf c.requires.limit c.in-Ok.ensures.logs c.in-Ok.ensures.only c.after_orders.ensures.only)
    c.after_orders.result (c.in-Ok.ensures.within (λ e. cc)) c.after_orders.ensures.within

pub returns-in-Err-clause-decides : goal.returns-in-Err-clause-decides
returns-in-Err-clause-decides g c =
    rw c.at.ensures
    (orders-unread (reading_by c.args.orders.now g.F.Shelf c.args.shelf.now c.collect_orders.new.shelf) c.args.orders.now c.args.trades.now c.in-Err.unread c.in-Err.ensures.read c.in-Err.ensures.only.other)

pub returns-in-Err-clause-within : goal.returns-in-Err-clause-within
returns-in-Err-clause-within g c =
    orders-within {T = DayBeforeRule} (reading_by c.args.orders.now g.F.Shelf c.args.shelf.now c.collect_orders.new.shelf) c.in-Err.unread (Err c.at.result) (ap Err c.at.ensures)
    (λ other. c.in-Err.ensures.within (λ e. other (cc))) c.in-Err.ensures.only.other
