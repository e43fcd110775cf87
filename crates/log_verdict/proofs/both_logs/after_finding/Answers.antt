use Rattle.std.proofs.Common.{ap, Err}
use Rattle.log_verdict.specs.declared.both_logs.LogsBeforeRule.{LogsBeforeRule}
use Rattle.log_verdict.specs.Steps.{reading_by}
use Rattle.log_verdict.proofs.AuditLemmas.{after_any}
use Rattle.log_verdict.proofs.JoinLemmas.{trades-unread, trades-within}
use Rattle.log_verdict.proofs.both_logs.after_finding.Goals as goal

pub returns-in-Ok-clause-decides : goal.returns-in-Ok-clause-decides
returns-in-Ok-clause-decides g c = λ entries taken found.
    after_any (reading_by c.args.trades.now g.F.Shelf c.args.shelf.now c.collect_trades.new.shelf) c.args.scope.now c.args.trades.now g.X.Collector.has_taken g.Y.Collector.has_taken entries c.args.kept.0 taken
    c.in-Ok.trades c.args.finding found c.in-Ok.ensures.read

pub returns-in-Err-clause-decides : goal.returns-in-Err-clause-decides
returns-in-Err-clause-decides g c = λ entries taken found.
    rw c.at.ensures (trades-unread (reading_by c.args.trades.now g.F.Shelf c.args.shelf.now c.collect_trades.new.shelf) c.args.trades.now c.in-Err.unread c.in-Err.ensures.read)

pub returns-in-Err-clause-within : goal.returns-in-Err-clause-within
returns-in-Err-clause-within g c =
    trades-within {T = LogsBeforeRule g.row.X.Denot g.row.Y.Denot} (reading_by c.args.trades.now g.F.Shelf c.args.shelf.now c.collect_trades.new.shelf) c.in-Err.unread (Err c.at.result) (ap Err c.at.ensures)
    (λ other. c.in-Err.ensures.within (λ e. other (cc)))
