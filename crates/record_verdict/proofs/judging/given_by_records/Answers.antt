use Rattle.std.proofs.Common.{◌∙◌, ap, Err}
use Rattle.record_verdict.proofs.JudgeLemmas.{given-found, ok-then}
use Rattle.record_verdict.proofs.judging.given_by_records.Goals as goal

pub returns-in-Ok-clause-gives : goal.returns-in-Ok-clause-gives
returns-in-Ok-clause-gives c =
    ok-then c.given_after_history.result _ _ (λ given is. is c.args.entries.now c.in-Ok.ensures.well_formed c.in-Ok.ensures.orders) c.given_after_history.ensures.gives

pub returns-in-Err-Found-clause-gives : goal.returns-in-Err-Found-clause-gives
returns-in-Err-Found-clause-gives c =
    rw c.in-Err-Found.field-0-is (given-found c.args.scope.now c.args.entries.now _ c.in-Err-Found.finding (c.build.ensures.found c.in-Err-Found.finding (c.in-Err-Found.is ∙ ap Err c.in-Err-Found.field-0-is)))
