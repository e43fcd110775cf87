use Rattle.std.proofs.Common.{◌∙◌, sym, ap}
use Rattle.record_verdict.specs.Scopes.{unadmitted_order_finding}
use Rattle.record_verdict.proofs.JudgeLemmas.{given-alone, given-unadmitted}
use Rattle.record_verdict.proofs.judging.given_after_history.Goals as goal

pub returns-in-Some-clause-gives : goal.returns-in-Some-clause-gives
returns-in-Some-clause-gives c =
    given-unadmitted c.args.scope.now c.args.history _ c.in-Some.finding (ap (unadmitted_order_finding c.args.scope.now.admission) (sym c.orders.ensures.same) ∙ sym c.first_unadmitted.ensures ∙ c.in-Some.is)

pub returns-in-Alone-clause-gives : goal.returns-in-Alone-clause-gives
returns-in-Alone-clause-gives c =
    rw c.in-Alone.is (given-alone c.args.scope.now c.args.history c.in-Alone.finding (ap (unadmitted_order_finding c.args.scope.now.admission) (sym c.orders.ensures.same) ∙ sym c.first_unadmitted.ensures ∙ c.in_default.is))
