use Rattle.std.proofs.Common.{sym, subst, ◌∙◌, List, ap, Err}
use Rattle.audit_base.specs.declared.orders.Order.{Order}
use Rattle.matching_core.specs.DealsDraft.{IsDealsDraft}
use Rattle.log_verdict.specs.declared.both_logs.LogsBeforeRule.{LogsBeforeRule}
use Rattle.log_verdict.specs.BothLogs.{IsAdmitted}
use Rattle.log_verdict.specs.Steps.{reading_by}
use Rattle.log_verdict.proofs.AuditLemmas.{after_alone, after_ended, deals_counted, ends_as}
use Rattle.log_verdict.proofs.JoinLemmas.{trades-unread, trades-within}
use Rattle.log_verdict.proofs.both_logs.after_history.Goals as goal

pub returns-in-Ok-Trades-clause-decides : goal.returns-in-Ok-Trades-clause-decides
returns-in-Ok-Trades-clause-decides g c = λ entries taken is.
    let read = rw c.in-Ok-Trades.field-0-is at c.in-Ok-Trades.ensures.read in
    rw c.of.ensures.found
    (after_ended (reading_by c.args.trades.now g.F.Shelf c.args.shelf.now c.collect_trades.new.shelf) c.args.scope.now c.args.trades.now g.X.Collector.has_taken g.Y.Collector.has_taken entries c.args.kept.0 taken
    (IsDealsDraft g.M.HistoryGhost.symbol g.M.HistoryGhost.orders) c.in-Ok-Trades.both c.end.result
    (subst (λ (os : List Order). IsAdmitted c.args.scope.now entries os) (c.requires.orders ∙ sym c.end.ensures.history) is) read
    (λ ts has. ends_as c.args.scope.now g.M.HistoryGhost.symbol g.M.HistoryGhost.orders ts c.end.result c.requires.symbol c.end.ensures.history
    (c.end.ensures.count ts has) (c.end.ensures.finding ts has) (c.end.ensures.deals ts has)))

pub returns-in-Ok-Alone-clause-decides : goal.returns-in-Ok-Alone-clause-decides
returns-in-Ok-Alone-clause-decides g c = λ entries taken is.
    let read = rw c.in-Ok-Alone.field-0-is at c.in-Ok-Alone.ensures.read in
    after_alone (reading_by c.args.trades.now g.F.Shelf c.args.shelf.now c.collect_trades.new.shelf) c.args.scope.now c.args.trades.now g.X.Collector.has_taken g.Y.Collector.has_taken entries c.args.kept.0 taken
    c.in-Ok-Alone.finding c.args.history is read

pub end-requires : goal.end-requires
end-requires g c =
    let place = rw c.in-Ok-Trades.field-0-is at c.in-Ok-Trades.ensures.fits_places in
    record { entries = place.entries; has = place.has.0; fits_places = place.fits_places }

pub of-requires-clause-counted : goal.of-requires-clause-counted
of-requires-clause-counted g c = λ none.
    let place = rw c.in-Ok-Trades.field-0-is at c.in-Ok-Trades.ensures.fits_places in
    rw (c.end.ensures.deals place.entries place.has.0 none, c.end.ensures.count place.entries place.has.0)
    (deals_counted g.M.HistoryGhost.orders g.M.HistoryGhost.symbol place.entries)

pub of-requires-clause-fits_places : goal.of-requires-clause-fits_places
of-requires-clause-fits_places g c =
    let place = rw c.in-Ok-Trades.field-0-is at c.in-Ok-Trades.ensures.fits_places in
    rw (c.end.ensures.count place.entries place.has.0) place.fits_places

pub returns-in-Err-clause-decides : goal.returns-in-Err-clause-decides
returns-in-Err-clause-decides g c = λ entries taken is.
    rw c.at.ensures (trades-unread (reading_by c.args.trades.now g.F.Shelf c.args.shelf.now c.collect_trades.new.shelf) c.args.trades.now c.in-Err.unread c.in-Err.ensures.read)

pub returns-in-Err-clause-within : goal.returns-in-Err-clause-within
returns-in-Err-clause-within g c =
    trades-within {T = LogsBeforeRule g.row.X.Denot g.row.Y.Denot} (reading_by c.args.trades.now g.F.Shelf c.args.shelf.now c.collect_trades.new.shelf) c.in-Err.unread (Err c.at.result) (ap Err c.at.ensures)
    (λ other. c.in-Err.ensures.within (λ e. other (cc)))
