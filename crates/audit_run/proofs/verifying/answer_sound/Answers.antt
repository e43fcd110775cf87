use Rattle.std.proofs.Common.{◌∙◌, ap, inl, inr, Err}
use Rattle.audit_report.specs.Certificates.{verified_line}
use Rattle.audit_run.proofs.ResultLemmas.{ok-then}
use Rattle.audit_run.proofs.verifying.answer_sound.Goals as goal

pub returns-in-Ok : goal.returns-in-Ok
returns-in-Ok c =
    let agrees = rw (c.orders-orders.ensures.same, c.deref.ensures.value) at c.in-Ok.ensures.agrees in
    let conforms = rw (c.orders-orders.ensures.same, c.deref.ensures.value) at c.in-Ok.ensures.conforms in
    ok-then c.verified_answer.result _ _
    (λ answer made. inl (record { the_rule = c.in-Ok.rule; agrees = agrees; conforms = conforms; status_is = made.status_is; text_is = made.text_is ∙ ap (verified_line c.in-Ok.rule c.args.symbol.now) (rw c.deref-in-Ok.ensures.value at c.volume_of.ensures) }))
    c.verified_answer.ensures

pub returns-in-Err-No : goal.returns-in-Err-No
returns-in-Err-No c =
    let refused = c.in-Err-No.is ∙ ap Err c.in-Err-No.field-0-is in
    let first = rw (refused, c.orders-orders.ensures.same, c.deref.ensures.value) at c.verify.ensures.refused in
    let none = rw (refused, c.orders-orders.ensures.same, c.deref.ensures.value) at c.verify.ensures.only in
    ok-then c.refused_answer.result _ _
    (λ answer made. inr (record { line = c.in-Err-No.line; first = first; none = none; status_is = made.status_is; text_is = made.text_is }))
    c.refused_answer.ensures
