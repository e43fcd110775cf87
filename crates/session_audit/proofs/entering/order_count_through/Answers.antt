use Rattle.std.proofs.Common.{◌≡◌, ◌<◌, ℕ, false, ◌∙◌, sym, ap, arith, inl, inr}
use Rattle.std.specs.Prelude.{nat_le}
use Rattle.std.proofs.lemmas.Bool.{cases_Bool, leb-true}
use Rattle.std.proofs.lemmas.List.Sums.{prefix_len_is}
use Rattle.audit_base.specs.declared.orders.Order.{Order}
use Rattle.audit_base.specs.Orders.{place_at, order_past_end}
use Rattle.session_audit.proofs.entering.order_count_through.Goals as goal

above : (a b : ℕ) → b < a → nat_le a b ≡ false
above a b lt = elim (cases_Bool (nat_le a b)) [ inl t ↦ (let le = leb-true a b t in absurd (omega arith)) | inr f ↦ f ]

pub returns-else-place-last : goal.returns-else-place-last
returns-else-place-last c =
    let orders = c.args.orders.now in
    let i = c.loop-count.count in
    let same : c.place.result ≡ place_at orders i = c.place.ensures ∙ ap (λ (p : Order). p.place) c.at.ensures in
    let over : c.args.last < c.place.result = c.if-place-last.false in
    sym (prefix_len_is (λ (o : Order). nat_le o.place c.args.last) orders i order_past_end c.loop-count.invariant.inside c.loop-count.invariant.passes (λ inside. above (place_at orders i) c.args.last (omega arith)))

pub returns-after-loop-count : goal.returns-after-loop-count
returns-after-loop-count c =
    let out = c.loop-count-test.false in
    sym (prefix_len_is (λ (o : Order). nat_le o.place c.args.last) c.args.orders.now c.loop-count.count order_past_end c.loop-count.invariant.inside c.loop-count.invariant.passes (λ inside. absurd (omega arith)))
