use Rattle.std.proofs.Common.{◌≡◌, ◌<◌, ◌∙◌, ℕ, ap, false, length, sym, subst, Some}
use Rattle.audit_base.specs.declared.flaws.Evidence.TheVariants.{InstantOrder}
use Rattle.audit_base.specs.Flaws.{finding_of}
use Rattle.audit_base.specs.Orders.{may_rest}
use Rattle.record_verdict.proofs.JudgeLemmas.{instant_at}
use Rattle.record_verdict.proofs.scopes.first_instant.Goals as goal

pub returns-then-not-rests : goal.returns-then-not-rests
returns-then-not-rests c =
    let orders = c.args.orders.now in
    let i = c.loop-index.index in
    let lt : i < length orders = subst (λ (n : ℕ). c.loop-index.index < n) c.len-index-end.ensures c.loop-index-test.true in
    let away : may_rest c.at-order.result.life ≡ false = ap may_rest (sym c.life.ensures) ∙ sym c.rests.ensures ∙ c.if-not-rests.true in
    ap Some (c.finding.ensures ∙ ap (λ (p : ℕ). finding_of orders (record { place = p; evidence = InstantOrder })) c.place-place.ensures)
    ∙ instant_at orders i c.at-order.result c.at-order.ensures lt c.loop-index.invariant away
