use Rattle.std.proofs.Common.{ap, refl, Ok, Err}
use Rattle.day_records.specs.DayTrades.{IsDayTrades}
use Rattle.day_logs.specs.declared.before_rule.DayBeforeRule.{DayBeforeRule}
use Rattle.day_logs.specs.declared.before_rule.DayBeforeRule.TheVariants as before_rule
use Rattle.day_logs.specs.DayBeforeRule.{IsDayBeforeRule}
use Rattle.log_verdict.specs.declared.reading.CollectedTrades.TheVariants as collected
use Rattle.log_verdict.specs.Steps.{reading_by}
use Rattle.log_verdict.proofs.JoinLemmas.{reads-collected, said-once, trades-unread, trades-within}
use Rattle.day_logs.proofs.reading.read_trades.Goals as goal

pub returns-in-Ok-Trades-clause-decides : goal.returns-in-Ok-Trades-clause-decides
returns-in-Ok-Trades-clause-decides g c = λ entries may.
    let read = rw c.in-Ok-Trades.field-0-is at c.in-Ok-Trades.ensures.read in
    reads-collected (reading_by c.args.trades.now g.F.Shelf c.args.shelf.now c.collect_trades.new.shelf) c.args.trades.now (IsDayTrades g.M.DayGhost.share g.M.DayGhost.admission g.M.DayGhost.may_have) (collected.Trades c.in-Ok-Trades.day)
    (λ paired. IsDayBeforeRule g.M.DayGhost.share g.M.DayGhost.admission entries paired (before_rule.Read c.end.result))
    (λ paired has. rw (said-once paired (Ok has.trades) (Ok paired) refl has.says) (c.end.ensures entries has.trades may has.has)) read

pub returns-in-Ok-Trades-clause-fits_places : goal.returns-in-Ok-Trades-clause-fits_places
returns-in-Ok-Trades-clause-fits_places g c =
    let place = rw c.in-Ok-Trades.field-0-is at c.in-Ok-Trades.ensures.fits_places in
    record { entries = place.has.entries; trades = place.entries; has = c.end.ensures place.has.entries place.entries place.has.has place.has; fits_places = place.fits_places }

pub returns-in-Ok-Alone-clause-decides : goal.returns-in-Ok-Alone-clause-decides
returns-in-Ok-Alone-clause-decides g c = λ entries may.
    let read = rw c.in-Ok-Alone.field-0-is at c.in-Ok-Alone.ensures.read in
    reads-collected (reading_by c.args.trades.now g.F.Shelf c.args.shelf.now c.collect_trades.new.shelf) c.args.trades.now (IsDayTrades {M = g.row.M.Denot} g.M.DayGhost.share g.M.DayGhost.admission g.M.DayGhost.may_have) (collected.Alone c.in-Ok-Alone.finding)
    (λ paired. IsDayBeforeRule g.M.DayGhost.share g.M.DayGhost.admission entries paired (before_rule.Unpaired c.in-Ok-Alone.finding)) (λ paired has. said-once paired (Err c.in-Ok-Alone.finding) (Ok paired) refl has) read

pub returns-in-Err-clause-decides : goal.returns-in-Err-clause-decides
returns-in-Err-clause-decides g c = λ entries may.
    rw c.at.ensures (trades-unread (reading_by c.args.trades.now g.F.Shelf c.args.shelf.now c.collect_trades.new.shelf) c.args.trades.now c.in-Err.unread c.in-Err.ensures.read)

pub returns-in-Err-clause-within : goal.returns-in-Err-clause-within
returns-in-Err-clause-within g c =
    trades-within {T = DayBeforeRule} (reading_by c.args.trades.now g.F.Shelf c.args.shelf.now c.collect_trades.new.shelf) c.in-Err.unread (Err c.at.result) (ap Err c.at.ensures)
    (λ other. c.in-Err.ensures.within (λ e. other (cc)))
