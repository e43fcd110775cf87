use Rattle.std.proofs.Common.{◌∙◌, ap, subst, Bool, Err}
use Rattle.call_audit.specs.FairMatchings.{IsFairMatching, IsFairMatchingOffence}
use Rattle.call_audit.proofs.AuditLemmas.{audited, broken_early}
use Rattle.call_audit.proofs.auditing.audit_against_greatest.Goals as goal

pub returns-in-Ok : goal.returns-in-Ok
returns-in-Ok c =
    let fair = subst (λ (b : Bool). IsFairMatching b c.args.orders.now c.args.deals.now c.in-Ok.totals) c.asks_one_price.ensures c.in-Ok.ensures.fair in
    audited c.args.rule c.args.orders.now c.args.deals.now c.args.count c.args.most c.in-Ok.totals c.outcome_of.result c.requires.order_list c.requires.deal_list.named c.in-Ok.ensures.numbers c.requires.most fair c.outcome_of.ensures

pub returns-in-Err-Found : goal.returns-in-Err-Found
returns-in-Err-Found c =
    let found = c.fair_matching.ensures.found c.in-Err-Found.finding (c.in-Err-Found.is ∙ ap Err c.in-Err-Found.field-0-is) in
    rw c.in-Err-Found.field-0-is (broken_early c.args.rule c.args.orders.now c.args.deals.now c.args.count c.in-Err-Found.finding c.fair_matching.ensures.numbers
    (subst (λ (b : Bool). IsFairMatchingOffence b c.args.orders.now c.args.deals.now c.in-Err-Found.finding) c.asks_one_price.ensures found))
