use Rattle.std.proofs.Common.{arith, subst}
use Rattle.audit_base.specs.declared.terms.Side.TheVariants.{Buy, Sell}
use Rattle.audit_certificate.specs.Steps.{IsAfterLast, IsRefusedLast}
use Rattle.audit_certificate.specs.OrderLines.{AllOrderLinesPass, IsRefusedOrderLine}
use Rattle.audit_certificate.proofs.VerifyLemmas.{handed-on, refused-head, refused-bound, refused-buy, refused-sell, refused-order, all-agree, shorter-four}
use Rattle.audit_certificate.proofs.verifying.check_lines.Goals as goal

pub returns-in_err-rule-clause-refused : goal.returns-in_err-rule-clause-refused
returns-in_err-rule-clause-refused c = handed-on c.check_head.result c.in_err-rule.field-0.0 c.from_residual-in_err-rule.result _ _ c.in_err-rule.was c.check_head.ensures.refused c.from_residual-in_err-rule.ensures.1
    (refused-head c.args.symbol.now c.args.orders.now c.args.deals.now c.args.bytes.now)

pub returns-in_err-rest-clause-refused : goal.returns-in_err-rest-clause-refused
returns-in_err-rest-clause-refused c = handed-on c.check_bound.result c.in_err-rest.field-0.0 c.from_residual-in_err-rest.result _ _ c.in_err-rest.was c.check_bound.ensures.refused c.from_residual-in_err-rest.ensures.1
    (refused-bound c.args.symbol.now c.args.orders.now c.args.deals.now c.args.bytes.now c.in_ok-rule.rule c.in_ok-rule.rest.now c.in_ok-rule.ensures.passed c.in_ok-counts.counts.volume c.in_ok-counts.ensures.volume_is)

pub returns-in_err-rest-2-clause-refused : goal.returns-in_err-rest-2-clause-refused
returns-in_err-rest-2-clause-refused c = handed-on c.check_last.result c.in_err-rest-2.field-0.0 c.from_residual-in_err-rest-2.result _ _ c.in_err-rest-2.was c.check_last.ensures.refused c.from_residual-in_err-rest-2.ensures.1
    (λ number refused. refused-buy c.args.symbol.now c.args.orders.now c.args.deals.now c.args.bytes.now c.in_ok-rule.rule c.in_ok-rule.rest.now c.in_ok-rule.ensures.passed c.in_ok-counts.counts.volume c.in_ok-counts.ensures.volume_is c.in_ok-rest.rest.now c.in_ok-rest.ensures.passed c.requires.order_list c.in_ok-counts.counts.traded.items c.in_ok-counts.ensures.totals number (subst (λ traded. IsRefusedLast c.args.orders.now traded Buy c.in_ok-rest.rest.now number) c.deref.ensures.value refused))

pub returns-in_err-rest-3-clause-refused : goal.returns-in_err-rest-3-clause-refused
returns-in_err-rest-3-clause-refused c = handed-on c.check_last-2.result c.in_err-rest-3.field-0.0 c.from_residual-in_err-rest-3.result _ _ c.in_err-rest-3.was c.check_last-2.ensures.refused c.from_residual-in_err-rest-3.ensures.1
    (λ number refused. refused-sell c.args.symbol.now c.args.orders.now c.args.deals.now c.args.bytes.now c.in_ok-rule.rule c.in_ok-rule.rest.now c.in_ok-rule.ensures.passed c.in_ok-counts.counts.volume c.in_ok-counts.ensures.volume_is c.in_ok-rest.rest.now c.in_ok-rest.ensures.passed c.requires.order_list c.in_ok-counts.counts.traded.items c.in_ok-counts.ensures.totals c.in_ok-rest-2.rest.now (subst (λ traded. IsAfterLast c.args.orders.now traded Buy c.in_ok-rest.rest.now c.in_ok-rest-2.rest.now) c.deref.ensures.value c.in_ok-rest-2.ensures.passed) number (subst (λ traded. IsRefusedLast c.args.orders.now traded Sell c.in_ok-rest-2.rest.now number) c.deref-2.ensures.value refused))

pub check_order_lines-requires-clause-small : goal.check_order_lines-requires-clause-small
check_order_lines-requires-clause-small c = let small = c.requires.small in let less = shorter-four c.args.symbol.now c.args.orders.now c.args.deals.now c.args.bytes.now c.in_ok-rule.rule c.in_ok-rule.rest.now c.in_ok-rule.ensures.passed c.in_ok-counts.counts.volume c.in_ok-counts.ensures.volume_is c.in_ok-rest.rest.now c.in_ok-rest.ensures.passed c.requires.order_list c.in_ok-counts.counts.traded.items c.in_ok-counts.ensures.totals c.in_ok-rest-2.rest.now (subst (λ traded. IsAfterLast c.args.orders.now traded Buy c.in_ok-rest.rest.now c.in_ok-rest-2.rest.now) c.deref.ensures.value c.in_ok-rest-2.ensures.passed) c.in_ok-rest-3.rest.now (subst (λ traded. IsAfterLast c.args.orders.now traded Sell c.in_ok-rest-2.rest.now c.in_ok-rest-3.rest.now) c.deref-2.ensures.value c.in_ok-rest-3.ensures.passed) in omega arith

pub returns-in_err-check_order_lines-clause-refused : goal.returns-in_err-check_order_lines-clause-refused
returns-in_err-check_order_lines-clause-refused c = handed-on c.check_order_lines.result c.in_err-check_order_lines.field-0.0 c.from_residual-in_err-check_order_lines.result _ _ c.in_err-check_order_lines.was c.check_order_lines.ensures.refused c.from_residual-in_err-check_order_lines.ensures.1
    (λ number refused. refused-order c.args.symbol.now c.args.orders.now c.args.deals.now c.args.bytes.now c.in_ok-rule.rule c.in_ok-rule.rest.now c.in_ok-rule.ensures.passed c.in_ok-counts.counts.volume c.in_ok-counts.ensures.volume_is c.in_ok-rest.rest.now c.in_ok-rest.ensures.passed c.requires.order_list c.in_ok-counts.counts.traded.items c.in_ok-counts.ensures.totals c.in_ok-rest-2.rest.now (subst (λ traded. IsAfterLast c.args.orders.now traded Buy c.in_ok-rest.rest.now c.in_ok-rest-2.rest.now) c.deref.ensures.value c.in_ok-rest-2.ensures.passed) c.in_ok-rest-3.rest.now (subst (λ traded. IsAfterLast c.args.orders.now traded Sell c.in_ok-rest-2.rest.now c.in_ok-rest-3.rest.now) c.deref-2.ensures.value c.in_ok-rest-3.ensures.passed) number (subst (λ traded. IsRefusedOrderLine c.args.orders.now traded c.in_ok-rest-3.rest.now number) c.deref-3.ensures.value refused))

pub returns-clause-agrees : goal.returns-clause-agrees
returns-clause-agrees c = all-agree c.args.symbol.now c.args.orders.now c.args.deals.now c.args.bytes.now c.in_ok-rule.rule c.in_ok-rule.rest.now c.in_ok-rule.ensures.passed c.in_ok-counts.counts.volume c.in_ok-counts.ensures.volume_is c.in_ok-rest.rest.now c.in_ok-rest.ensures.passed c.requires.order_list c.in_ok-counts.counts.traded.items c.in_ok-counts.ensures.totals c.in_ok-rest-2.rest.now (subst (λ traded. IsAfterLast c.args.orders.now traded Buy c.in_ok-rest.rest.now c.in_ok-rest-2.rest.now) c.deref.ensures.value c.in_ok-rest-2.ensures.passed) c.in_ok-rest-3.rest.now (subst (λ traded. IsAfterLast c.args.orders.now traded Sell c.in_ok-rest-2.rest.now c.in_ok-rest-3.rest.now) c.deref-2.ensures.value c.in_ok-rest-3.ensures.passed) (subst (λ traded. AllOrderLinesPass c.args.orders.now traded c.in_ok-rest-3.rest.now) c.deref-3.ensures.value c.in_ok-check_order_lines.ensures.passed)
