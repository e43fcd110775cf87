use Rattle.log_verdict.specs.Steps.{reading_by}
use Rattle.log_verdict.proofs.VerdictLemmas.{reads-verdict, reads-without, stays-without}
use Rattle.log_verdict.proofs.verdicts.verdict_on.Goals as goal

pub returns-in_ok-verdict_after-in-Ok-clause-decides : goal.returns-in_ok-verdict_after-in-Ok-clause-decides
returns-in_ok-verdict_after-in-Ok-clause-decides g c =
    rw c.into_verdict.ensures
    (reads-verdict (reading_by c.args.orders.now g.F.Shelf c.args.shelf.now c.read_both.new.shelf) c.args.question.now c.args.orders.now c.args.trades.now c.in-Ok.given
    c.in_ok-verdict_after-in-Ok.field-0 (rw c.scope.ensures at c.in-Ok.ensures.decides) c.in_ok-verdict_after-in-Ok.ensures.verdict)

pub returns-in_ok-verdict_after-in-Ok-clause-in_range : goal.returns-in_ok-verdict_after-in-Ok-clause-in_range
returns-in_ok-verdict_after-in-Ok-clause-in_range g c = rw c.into_verdict.ensures c.in_ok-verdict_after-in-Ok.ensures.in_range

pub returns-in-Err-clause-decides : goal.returns-in-Err-clause-decides
returns-in-Err-clause-decides g c =
    rw c.verdict_without.ensures.answer
    (reads-without (reading_by c.args.orders.now g.F.Shelf c.args.shelf.now c.read_both.new.shelf) c.args.question.now c.args.orders.now c.args.trades.now c.in-Err.why c.in-Err.ensures.decides)

pub returns-in-Err-clause-within : goal.returns-in-Err-clause-within
returns-in-Err-clause-within g c =
    rw c.verdict_without.ensures.answer
    (stays-without (reading_by c.args.orders.now g.F.Shelf c.args.shelf.now c.read_both.new.shelf) c.in-Err.why c.read_both.result c.in-Err.is c.read_both.ensures.within)
