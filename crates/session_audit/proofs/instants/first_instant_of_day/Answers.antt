use Rattle.std.proofs.Common.{◌≡◌, ◌<◌, ◌∙◌, ℕ, Some, ap, length, sym, subst, true}
use Rattle.audit_base.specs.declared.flaws.Evidence.TheVariants.{InstantOrder}
use Rattle.audit_base.specs.Flaws.{finding_of}
use Rattle.audit_base.specs.Orders.{order_at}
use Rattle.session_audit.specs.Instants.{is_instant_order}
use Rattle.session_audit.proofs.InstantLemmas.{first-at}
use Rattle.session_audit.proofs.instants.first_instant_of_day.Goals as goal

pub returns-then-is_instant_order : goal.returns-then-is_instant_order
returns-then-is_instant_order c =
    let orders = c.args.orders.now in
    let phases = c.args.phases.now in
    let i = c.loop-index.index in
    let lt : i < length orders = subst (λ (n : ℕ). c.loop-index.index < n) c.len-index-end.ensures c.loop-index-test.true in
    let here : is_instant_order phases (order_at orders i) ≡ true = ap (is_instant_order phases) (sym c.at-order.ensures) ∙ sym c.is_instant_order.ensures ∙ c.if-is_instant_order.true in
    ap Some (c.finding.ensures ∙ ap (λ (p : ℕ). finding_of orders (record { place = p; evidence = InstantOrder })) c.place-place.ensures)
    ∙ first-at phases orders i c.at-order.result c.at-order.ensures lt c.loop-index.invariant here
