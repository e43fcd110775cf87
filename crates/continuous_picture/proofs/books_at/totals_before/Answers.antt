use Rattle.std.proofs.Common.{◌≡◌, ◌+◌, ◌∙◌, ℕ, suc, sym, ap, arith, inl, inr, subst}
use Rattle.std.specs.Prelude.{replicate}
use Rattle.std.proofs.lemmas.Bool.{cases_eq, leb-false, leb-true}
use Rattle.audit_base.specs.Orders.{place_at}
use Rattle.order_arrivals.specs.DealtOrders.{HaveTraded}
use Rattle.order_arrivals.proofs.ArrivalLemmas.{traded-first}
use Rattle.continuous_picture.proofs.BookAtLemmas.{before-known, coming-from}
use Rattle.continuous_picture.proofs.books_at.totals_before.Goals as goal

pub loop-order-init : goal.loop-order-init
loop-order-init c = record {
  traded = traded-first c.args.market.now _ _ c.in_ok-totals.ensures.added (c.in_ok-totals.ensures.traded ∙ ap (λ (n : ℕ). replicate n 0) c.len.ensures);
  come = λ x lt. absurd (omega arith);
}

pub loop-order-preserved : goal.loop-order-preserved
loop-order-preserved c =
    let m = c.args.market.now in
    let n = c.loop-order.order in
    let e : suc n ≡ n + 1 = omega arith in
    let off = leb-false _ _ (sym c.is_from.ensures ∙ c.if-is_from.false) in
    record {
      traded = subst (λ (k : ℕ). HaveTraded m k c.add_deals_of.new.self.added c.add_deals_of.new.self.traded.items) e c.add_deals_of.ensures;
      come = λ x lt. elim (cases_eq x n) [
        | inl same ↦ let at : place_at m.orders.now x ≡ place_at m.orders.now n = ap (place_at m.orders.now) same in omega arith
        | inr ne ↦ c.loop-order.invariant.come x (omega (arith, ne))
      ];
    }

pub returns-then-is_from : goal.returns-then-is_from
returns-then-is_from c =
    let m = c.args.market.now in
    let n = c.loop-order.order in
    let from = leb-true _ _ (sym c.is_from.ensures ∙ c.if-is_from.true) in
    before-known m c.requires c.args.place n _ _ c.loop-order.invariant.traded c.loop-order.invariant.come (coming-from m.orders.now c.requires.order_list n c.args.place from)

pub returns : goal.returns
returns c =
    let m = c.args.market.now in
    let last = c.loop-order-test.false in
    let upto = c.loop-order.auto.order-end in
    let long = c.len-order-end.ensures in
    before-known m c.requires c.args.place c.loop-order.order _ _ c.loop-order.invariant.traded c.loop-order.invariant.come (λ x le lt. absurd (omega arith))
