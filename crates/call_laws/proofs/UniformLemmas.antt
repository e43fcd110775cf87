-- Under `uniform` the pairs of units reach each volume up to the demand and the supply at a price.
use Rattle.std.proofs.Common.{◌≡◌, ◌≤◌, ◌<◌, ◌+◌, ◌-◌, ℕ, List, get_or, arith, sum_by, inl, inr, Bool, true, false, cond}
use Rattle.std.specs.Prelude.{◌&&◌, min, max, nat_le}
use Rattle.std.proofs.lemmas.List.Sums.{sum_by-le-sum_by}
use Rattle.std.proofs.lemmas.Bool.{cases_lt}
use Rattle.audit_base.specs.declared.terms.Side.TheVariants.{Buy, Sell}
use Rattle.audit_base.specs.declared.orders.Order.{Order}
use Rattle.audit_base.specs.Orders.{quantity_at, limit_at, is_uncancelled_on, IsOrderList}
use Rattle.audit_base.specs.Bounds.{demand_of_order, supply_of_order, demand, supply}
use Rattle.audit_base.specs.Units.{total_quantity_ahead, uniform_units}
use Rattle.audit_base.proofs.SumLemmas.{sum_by-same}
use Rattle.call_laws.proofs.UnitLemmas.{uniform-overlap}
use Rattle.call_laws.proofs.RankedLemmas.{ranked, ranked-sum}
use Rattle.call_laws.proofs.AheadLemmas.{ranks-overlap, ahead-demand, ahead-supply}
use Rattle.call_laws.proofs.CallLemmas.{FillsBoth}

pub under-both : (a b : Bool) (x : ℕ) → cond (a && b) x 0 ≤ cond a x 0
under-both true true x = omega arith
under-both true false x = omega arith
under-both false b x = omega arith

-- a side has at least the quantity that it has at a price
pub demand-most : (orders : List Order) (p : ℕ) → demand orders p ≤ sum_by (quantity_at orders) (ranked orders Buy)
demand-most orders p = omega (
  arith,
  ranked-sum orders Buy (λ o. o.quantity),
  sum_by-le-sum_by (demand_of_order p) (λ o. cond (is_uncancelled_on Buy o) o.quantity 0) orders (λ o. under-both (is_uncancelled_on Buy o) (nat_le p o.limit) o.quantity),
)

pub supply-most : (orders : List Order) (p : ℕ) → supply orders p ≤ sum_by (quantity_at orders) (ranked orders Sell)
supply-most orders p = omega (
  arith,
  ranked-sum orders Sell (λ o. o.quantity),
  sum_by-le-sum_by (supply_of_order p) (λ o. cond (is_uncancelled_on Sell o) o.quantity 0) orders (λ o. under-both (is_uncancelled_on Sell o) (nat_le o.limit p) o.quantity),
)

pub uniform-fills : (orders : List Order) → IsOrderList orders → (p total : ℕ) → total ≤ demand orders p → total ≤ supply orders p
    → FillsBoth orders (uniform_units orders total) (λ bid ask. p) total
uniform-fills orders list p total d s =
    let most_bids = demand-most orders p in
    let most_asks = supply-most orders p in
    record {
      bids = λ i st.
          let a = total_quantity_ahead orders Buy i in let q = quantity_at orders i in
          let part = λ (k : ℕ). min (min total (a + q)) (total_quantity_ahead orders Sell k + quantity_at orders k) - max a (total_quantity_ahead orders Sell k) in
          let same : sum_by (uniform_units orders total i) (ranked orders Sell) ≡ sum_by part (ranked orders Sell) = sum_by-same (uniform_units orders total i) part (ranked orders Sell)
          (λ n e lt. let u = uniform-overlap orders total i (get_or (ranked orders Sell) n e) in omega arith) in
          omega (arith, same, ranks-overlap orders Sell list a (min total (a + q)), most_asks);
      asks = λ k st.
          let a = total_quantity_ahead orders Sell k in let q = quantity_at orders k in
          let part = λ (i : ℕ). min (min total (a + q)) (total_quantity_ahead orders Buy i + quantity_at orders i) - max a (total_quantity_ahead orders Buy i) in
          let same : sum_by (λ i. uniform_units orders total i k) (ranked orders Buy) ≡ sum_by part (ranked orders Buy) = sum_by-same (λ i. uniform_units orders total i k) part (ranked orders Buy)
          (λ n e lt. let u = uniform-overlap orders total (get_or (ranked orders Buy) n e) k in omega arith) in
          omega (arith, same, ranks-overlap orders Buy list a (min total (a + q)), most_bids);
      most = λ i k. omega (arith, uniform-overlap orders total i k);
      meet = λ i k si sk some.
          let u = uniform-overlap orders total i k in
          let bid_in : total_quantity_ahead orders Buy i < total = omega (arith, u, some) in
          let ask_in : total_quantity_ahead orders Sell k < total = omega (arith, u, some) in
          let low : limit_at orders k ≤ p = elim (cases_lt p (limit_at orders k)) [ inl lt ↦ absurd (omega (arith, ahead-supply orders k p lt)) | inr le ↦ le ] in
          let high : p ≤ limit_at orders i = elim (cases_lt (limit_at orders i) p) [ inl lt ↦ absurd (omega (arith, ahead-demand orders i p lt)) | inr le ↦ le ] in
          (low, high);
      enough = omega arith;
    }
