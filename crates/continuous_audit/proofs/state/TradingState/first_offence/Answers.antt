use Rattle.std.proofs.Common.{◌≡◌, ◌<◌, ◌∙◌, ℕ, Option, Some, IfSome, length, sym, ap, subst, arith, add-one, Ok}
use Rattle.audit_base.specs.declared.flaws.Flaw.{Flaw}
use Rattle.audit_base.specs.Orders.{place_at}
use Rattle.continuous_audit.specs.Flaws.{IsFlawAt}
use Rattle.continuous_audit.specs.Progress.{IsReadyNext}
use Rattle.continuous_audit.specs.Records.{ConformsAndIsUncrossed}
use Rattle.continuous_audit.proofs.ReadyLemmas.{ready-here}
use Rattle.continuous_audit.proofs.VerdictLemmas.{offence}
use Rattle.continuous_audit.proofs.state.TradingState.first_offence.Goals as goal

pub loop-order-preserved : goal.loop-order-preserved
loop-order-preserved c =
    subst (λ (m : ℕ). IsReadyNext c.args.market.now m c.audit_record.new.self) (sym (add-one c.loop-order.order)) (c.in_ok-place.ensures.ready (ap Ok c.in_default.is))

pub returns-clause-done : goal.returns-clause-done
returns-clause-done c = λ e.
    let at : c.loop-order.order ≡ length c.args.market.now.orders.now = omega arith in
    subst (λ (m : ℕ). IsReadyNext c.args.market.now m c.loop-order.self) at c.loop-order.invariant

pub finding-requires : goal.finding-requires
finding-requires c = (subst (λ (f : Option Flaw). IfSome f (IsFlawAt c.args.market.now c.loop-order.order)) c.in-Some.is c.in_ok-place.ensures.found).inside

pub returns-in-Some-clause-found : goal.returns-in-Some-clause-found
returns-in-Some-clause-found c =
    let orders = c.args.market.now.orders.now in
    let deals = c.args.market.now.deals.now in
    let is = subst (λ (f : Option Flaw). IfSome f (IsFlawAt c.args.market.now c.loop-order.order)) c.in-Some.is c.in_ok-place.ensures.found in
    let calm = subst (ConformsAndIsUncrossed orders deals) (ready-here orders c.loop-order.order (subst (λ (n : ℕ). c.loop-order.order < n) c.len-order-end.ensures c.loop-order-test.true)) c.loop-order.invariant.calm in
    offence orders deals (place_at orders c.loop-order.order) c.finding.result calm (is.same ∙ ap Some (sym c.finding.ensures))
