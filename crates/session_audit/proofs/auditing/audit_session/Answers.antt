use Rattle.std.proofs.Common.{◌≡◌, ◌∙◌, sym, None}
use Rattle.session_audit.proofs.BrokenLemmas.{broken-instant}
use Rattle.session_audit.proofs.InstantLemmas.{instant-is}
use Rattle.session_audit.proofs.auditing.audit_session.Goals as goal

pub returns-in-Some : goal.returns-in-Some
returns-in-Some c =
    broken-instant c.args.phases.now c.args.orders.now c.args.deals.now c.args.count c.in-Some.finding
    (sym (instant-is c.args.phases.now c.args.orders.now c.requires.order_list c.numbers_are_in_range.ensures c.args.deals.now) ∙ sym c.first_instant_of_day.ensures ∙ c.in-Some.is)

pub audit_phases-requires-clause-admitted : goal.audit_phases-requires-clause-admitted
audit_phases-requires-clause-admitted c =
    let none : c.first_instant_of_day.result ≡ None = c.in_default.is in
    sym (instant-is c.args.phases.now c.args.orders.now c.requires.order_list c.numbers_are_in_range.ensures c.args.deals.now) ∙ sym c.first_instant_of_day.ensures ∙ none
