-- Both sides have units enough for the greatest volume.
use Rattle.std.proofs.Common.{◌≡◌, ◌≤◌, ◌<◌, ◌^◌, ℕ, List, true, arith, inl, inr}
use Rattle.std.specs.Prelude.{◌&&◌, nat_lt, nat_le}
use Rattle.std.proofs.lemmas.List.Sums.{sum_by-le-sum_by}
use Rattle.std.proofs.lemmas.Bool.{cases_Bool, cases_lt, ltb-true, le-leb, cond-true, cond-false, and_parts, and_from}
use Rattle.audit_base.specs.declared.terms.Side.TheVariants.{Sell}
use Rattle.audit_base.specs.declared.orders.Order.{Order}
use Rattle.audit_base.specs.declared.orders.Cut.{Cut}
use Rattle.audit_base.specs.Orders.{is_uncancelled_on, OrdersInRange}
use Rattle.audit_base.specs.Bounds.{demand, supply, supply_below, supply_of_order, supply_below_of_order, executable_volume, IsLeastCut, IsGreatestExecutableVolume}
use Rattle.audit_base.proofs.VolumeLemmas.{demand-falls, supply-under}
use Rattle.call_laws.proofs.MaximumLemmas.{none-below, none-wanted}

-- what is offered below a price is offered at it
below-offered : (p : ℕ) (o : Order) → supply_below_of_order p o ≤ supply_of_order p o
below-offered p o = elim (cases_Bool (is_uncancelled_on Sell o && nat_lt o.limit p)) [
  | inl t ↦
      let parts = and_parts (is_uncancelled_on Sell o) (nat_lt o.limit p) t in
      let under = ltb-true o.limit p parts.1 in
      let at : (is_uncancelled_on Sell o && nat_le o.limit p) ≡ true = and_from _ _ parts.0 (le-leb o.limit p (omega arith)) in
      let x = cond-true (is_uncancelled_on Sell o && nat_lt o.limit p) o.quantity 0 t in
      let y = cond-true (is_uncancelled_on Sell o && nat_le o.limit p) o.quantity 0 at in
      omega arith
  | inr f ↦ let x = cond-false (is_uncancelled_on Sell o && nat_lt o.limit p) o.quantity 0 f in omega arith
]

supply_below-supply : (orders : List Order) (p : ℕ) → supply_below orders p ≤ supply orders p
supply_below-supply orders p = sum_by-le-sum_by (supply_below_of_order p) (supply_of_order p) orders (below-offered p)

-- at 10^18 nobody bids, so where a volume is the greatest executable volume the least price that reaches it is below
uniform-priced : (orders : List Order) (c : Cut) → OrdersInRange orders → IsGreatestExecutableVolume orders c → c.price < 10 ^ 18
uniform-priced orders c ranges best = elim (cases_lt c.price (10 ^ 18)) [
  | inl lt ↦ lt
  | inr ge ↦
      let at : executable_volume orders c.price ≡ c.volume = best.reached.holds.1 in
      let falls = demand-falls orders (10 ^ 18) c.price ge in
      let none = none-wanted orders ranges in
      let zero = best.greatest 0 (omega arith) in
      let same : executable_volume orders 0 ≡ c.volume = omega arith in
      absurd (best.reached.none_below 0 (omega arith) (omega arith, same))
]

pub uniform-suffice : (orders : List Order) (c : Cut) → OrdersInRange orders → IsGreatestExecutableVolume orders c
    → (c.volume ≤ demand orders 0) × (c.volume ≤ supply orders (10 ^ 18)) × (c.price < 10 ^ 18)
uniform-suffice orders c ranges best =
    let at : executable_volume orders c.price ≡ c.volume = best.reached.holds.1 in
    let priced = uniform-priced orders c ranges best in
    let falls = demand-falls orders 0 c.price (omega arith) in
    let rises = supply-under orders c.price (10 ^ 18) priced in
    let within = supply_below-supply orders (10 ^ 18) in
    (omega arith, omega arith, priced)

pub maximum-suffice : (orders : List Order) (c : Cut) → OrdersInRange orders → IsLeastCut orders c
    → (c.volume ≤ demand orders 0) × (c.volume ≤ supply orders (10 ^ 18))
maximum-suffice orders c ranges least =
    let bottom = least.least 0 (omega arith) in
    let none = none-below orders in
    let top = least.least (10 ^ 18) (omega arith) in
    let away = none-wanted orders ranges in
    let within = supply_below-supply orders (10 ^ 18) in
    (omega arith, omega arith)
