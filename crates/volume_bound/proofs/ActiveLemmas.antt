-- What is kept of the orders so far, one order further.
use Rattle.std.proofs.Common.{◌≡◌, ◌≤◌, ◌<◌, ◌+◌, ◌∙◌, sym, ap, ℕ, List, [], ◌∷◌, ◌++◌, length, take, arith}
use Rattle.std.specs.Prelude.{map}
use Rattle.std.specs.List.{filter}
use Rattle.std.proofs.lemmas.List.{take_more, map-append, length-map}
use Rattle.std.proofs.lemmas.List.Sums.{length-filter, count_by-le-length}
use Rattle.std.proofs.lemmas.List.Elements.{filter-append}
use Rattle.audit_base.specs.declared.terms.Side.{Side}
use Rattle.audit_base.specs.declared.terms.Side.TheVariants.{Buy, Sell}
use Rattle.audit_base.specs.declared.orders.Order.{Order}
use Rattle.audit_base.specs.Orders.{order_at, order_past_end, is_uncancelled_on}
use Rattle.volume_bound.specs.declared.limits.LimitQuantity.{LimitQuantity}
use Rattle.volume_bound.specs.Limits.{limit_quantity_of, limits_on}

-- the limits of both sides of these orders
pub record AreGathered (orders : List Order) (bids asks : List LimitQuantity) : Type 0 where
  pub bids_are : bids ≡ limits_on Buy orders
  pub asks_are : asks ≡ limits_on Sell orders

pub limits-few : (side : Side) (orders : List Order) → length (limits_on side orders) ≤ length orders
limits-few side orders = omega (arith, length-map (filter (is_uncancelled_on side) orders) limit_quantity_of, length-filter (is_uncancelled_on side) orders, count_by-le-length (is_uncancelled_on side) orders)

limits-append : (side : Side) (xs ys : List Order) → limits_on side (xs ++ ys) ≡ limits_on side xs ++ limits_on side ys
limits-append side xs ys = ap (map limit_quantity_of) (filter-append (is_uncancelled_on side) xs ys) ∙ map-append limit_quantity_of (filter (is_uncancelled_on side) xs) (filter (is_uncancelled_on side) ys)

-- one order further
module _ (orders : List Order) (n : ℕ) (o : Order) (lt : n < length orders) (at : o ≡ order_at orders n) (bids asks more_bids more_asks : List LimitQuantity) where
  pub gathered-more : AreGathered (take n orders) bids asks → more_bids ≡ bids ++ limits_on Buy (o ∷ []) → more_asks ≡ asks ++ limits_on Sell (o ∷ [])
      → AreGathered (take (n + 1) orders) more_bids more_asks
  gathered-more so_far b a =
      let next : take (n + 1) orders ≡ take n orders ++ o ∷ [] = take_more orders n order_past_end lt ∙ ap (λ (x : Order). take n orders ++ x ∷ []) (sym at) in
      rw next (record {
        bids_are = b ∙ ap (λ (limits : List LimitQuantity). limits ++ limits_on Buy (o ∷ [])) so_far.bids_are ∙ sym (limits-append Buy (take n orders) (o ∷ []));
        asks_are = a ∙ ap (λ (limits : List LimitQuantity). limits ++ limits_on Sell (o ∷ [])) so_far.asks_are ∙ sym (limits-append Sell (take n orders) (o ∷ []));
      })
