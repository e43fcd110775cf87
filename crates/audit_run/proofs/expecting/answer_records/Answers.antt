use Rattle.std.proofs.Common.{◌∙◌, sym}
use Rattle.audit_run.proofs.AnswerLemmas.{expects-named}
use Rattle.audit_run.proofs.ResultLemmas.{ok-then}
use Rattle.audit_run.proofs.expecting.answer_records.Goals as goal

pub returns-in-Some : goal.returns-in-Some
returns-in-Some g c =
    ok-then c.finding_answer-in-Some.result _ _
    (λ answer made entries handed. expects-named c.args.rule c.args.symbol.now _ entries _ c.in-Some.finding answer c.requires.symbol (c.in-Ok.ensures.well_formed entries handed)
    (c.orders-orders.ensures.same ∙ c.in-Ok.ensures.orders entries handed) (sym c.instant_finding_of_rule.ensures ∙ c.in-Some.is) made)
    c.finding_answer-in-Some.ensures
