use Rattle.std.proofs.Common.{ap, Err}
use Rattle.log_verdict.specs.Steps.{reading_by}
use Rattle.log_verdict.proofs.JoinLemmas.{reads-collected, trades-unread, trades-within}
use Rattle.log_verdict.proofs.reading_through.read_trades_through.Goals as goal

pub returns-in-Ok-clause-decides : goal.returns-in-Ok-clause-decides
returns-in-Ok-clause-decides g c =
    reads-collected (reading_by c.args.trades.now g.F.Shelf c.args.shelf.now c.collect_trades.new.shelf) c.args.trades.now _ _ (λ paired. Unit {0}) (λ paired has. tt) c.in-Ok.ensures.read

pub returns-in-Err-clause-decides : goal.returns-in-Err-clause-decides
returns-in-Err-clause-decides g c =
    rw c.at.ensures (trades-unread (reading_by c.args.trades.now g.F.Shelf c.args.shelf.now c.collect_trades.new.shelf) c.args.trades.now c.in-Err.unread c.in-Err.ensures.read)

pub returns-in-Err-clause-within : goal.returns-in-Err-clause-within
returns-in-Err-clause-within g c =
    trades-within {T = Unit {0}} (reading_by c.args.trades.now g.F.Shelf c.args.shelf.now c.collect_trades.new.shelf) c.in-Err.unread (Err c.at.result) (ap Err c.at.ensures)
    (λ other. c.in-Err.ensures.within (λ e. other (cc)))
