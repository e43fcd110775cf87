-- Under `maximum` the pairs of units reach each volume up to the least cut.
use Rattle.std.proofs.Common.{◌≡◌, ◌≤◌, ◌<◌, ◌+◌, ◌-◌, ℕ, List, get_or, arith, sum_by, inl, inr, cond}
use Rattle.std.specs.Prelude.{◌&&◌, ◌^◌, min, max, nat_lt, nat_le}
use Rattle.std.proofs.lemmas.List.Sums.{sum_by-le-sum_by}
use Rattle.std.proofs.lemmas.Bool.{cases_lt, cond-false, and_right, lt-leb, le-ltb}
use Rattle.audit_base.specs.declared.terms.Side.TheVariants.{Buy, Sell}
use Rattle.audit_base.specs.declared.orders.Order.{Order}
use Rattle.audit_base.specs.Orders.{order_past_end, quantity_at, limit_at, is_uncancelled_on, IsOrderList, OrdersInRange}
use Rattle.audit_base.specs.Bounds.{demand_of_order, supply_below_of_order, demand, supply_below, cut}
use Rattle.audit_base.specs.Units.{total_quantity_ahead, maximum_units}
use Rattle.audit_base.proofs.SumLemmas.{sum_by-same, sum_by-none}
use Rattle.call_laws.proofs.UnitLemmas.{maximum-overlap}
use Rattle.call_laws.proofs.RankedLemmas.{ranked, ranked-sum}
use Rattle.call_laws.proofs.AheadLemmas.{ranks-overlap, ahead-demand, ahead-below}
use Rattle.call_laws.proofs.CallLemmas.{FillsBoth}
use Rattle.call_laws.proofs.UniformLemmas.{under-both, demand-most}

-- no ask has a limit below 0, and no bid one of 10^18 or above
pub none-below : (orders : List Order) → supply_below orders 0 ≡ 0
none-below orders = sum_by-none (supply_below_of_order 0) orders (λ n e lt. let o = get_or orders n e in
    cond-false (is_uncancelled_on Sell o && nat_lt o.limit 0) o.quantity 0 (and_right (is_uncancelled_on Sell o) (nat_lt o.limit 0) (le-ltb o.limit 0 (omega arith))))

pub none-wanted : (orders : List Order) → OrdersInRange orders → demand orders (10 ^ 18) ≡ 0
none-wanted orders ranges = sum_by-none (demand_of_order (10 ^ 18)) orders (λ n e lt. let o = get_or orders n e in let below = (ranges n e lt).priced in
    cond-false (is_uncancelled_on Buy o && nat_le (10 ^ 18) o.limit) o.quantity 0 (and_right (is_uncancelled_on Buy o) (nat_le (10 ^ 18) o.limit) (lt-leb (10 ^ 18) o.limit below)))

pub supply_below-most : (orders : List Order) (p : ℕ) → supply_below orders p ≤ sum_by (quantity_at orders) (ranked orders Sell)
supply_below-most orders p = omega (
  arith,
  ranked-sum orders Sell (λ o. o.quantity),
  sum_by-le-sum_by (supply_below_of_order p) (λ o. cond (is_uncancelled_on Sell o) o.quantity 0) orders (λ o. under-both (is_uncancelled_on Sell o) (nat_lt o.limit p) o.quantity),
)

pub maximum-fills : (orders : List Order) → IsOrderList orders → OrdersInRange orders → (total : ℕ) → ((p : ℕ) → p ≤ 10 ^ 18 → total ≤ cut orders p)
    → FillsBoth orders (maximum_units orders total) (λ bid ask. limit_at orders ask) total
maximum-fills orders list ranges total cuts =
    let enough_bids : total ≤ sum_by (quantity_at orders) (ranked orders Buy) = omega (arith, cuts 0 (omega arith), none-below orders, demand-most orders 0) in
    let enough_asks : total ≤ sum_by (quantity_at orders) (ranked orders Sell) = omega (arith, cuts (10 ^ 18) (omega arith), none-wanted orders ranges, supply_below-most orders (10 ^ 18)) in
    record {
      bids = λ i st.
          let a = total_quantity_ahead orders Buy i in let q = quantity_at orders i in
          let part = λ (k : ℕ). min (total - a) (total_quantity_ahead orders Sell k + quantity_at orders k) - max (total - (a + q)) (total_quantity_ahead orders Sell k) in
          let same : sum_by (maximum_units orders total i) (ranked orders Sell) ≡ sum_by part (ranked orders Sell) = sum_by-same (maximum_units orders total i) part (ranked orders Sell)
          (λ n e lt. let u = maximum-overlap orders total i (get_or (ranked orders Sell) n e) in omega arith) in
          omega (arith, same, ranks-overlap orders Sell list (total - (a + q)) (total - a), enough_asks);
      asks = λ k st.
          let a = total_quantity_ahead orders Sell k in let q = quantity_at orders k in
          let part = λ (i : ℕ). min (total - a) (total_quantity_ahead orders Buy i + quantity_at orders i) - max (total - (a + q)) (total_quantity_ahead orders Buy i) in
          let same : sum_by (λ i. maximum_units orders total i k) (ranked orders Buy) ≡ sum_by part (ranked orders Buy) = sum_by-same (λ i. maximum_units orders total i k) part (ranked orders Buy)
          (λ n e lt. let u = maximum-overlap orders total (get_or (ranked orders Buy) n e) k in omega arith) in
          omega (arith, same, ranks-overlap orders Buy list (total - (a + q)) (total - a), enough_bids);
      most = λ i k. omega (arith, maximum-overlap orders total i k);
      meet = λ i k si sk some.
          let u = maximum-overlap orders total i k in
          let both : total_quantity_ahead orders Buy i + total_quantity_ahead orders Sell k < total = omega (arith, u, some) in
          let high : limit_at orders k ≤ limit_at orders i = elim (cases_lt (limit_at orders i) (limit_at orders k)) [
            | inl lt ↦
                let above = limit_at orders i + 1 in
                let under : limit_at orders k < 10 ^ 18 = (ranges k order_past_end sk.inside).priced in
                absurd (omega (arith, cuts above (omega arith), ahead-demand orders i above (omega arith), ahead-below orders k above (omega arith)))
            | inr le ↦ le
          ] in
          (omega arith, high);
      enough = enough_bids;
    }
