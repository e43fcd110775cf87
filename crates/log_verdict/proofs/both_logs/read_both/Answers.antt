use Rattle.record_verdict.specs.BeforeRule.{IsBeforeRule}
use Rattle.log_verdict.specs.Steps.{reading_by}
use Rattle.log_verdict.proofs.JoinLemmas.{reads-good}
use Rattle.log_verdict.proofs.both_logs.read_both.Goals as goal

pub returns-in-Ok-clause-decides : goal.returns-in-Ok-clause-decides
returns-in-Ok-clause-decides g c =
    reads-good (reading_by c.args.orders.now g.F.Shelf c.args.shelf.now c.read_keeping.new.shelf) c.args.orders.now c.args.trades.now _ (λ entries paired. IsBeforeRule c.args.scope.now entries paired c.in-Ok.read.given)
    (λ log bad. ⊥) (λ entries paired is. is.before) c.in-Ok.ensures.decides
