-- Sums of quantities by limit: sorted limits are split at a price, and those of a side have the
-- sums of its orders.
use Rattle.std.proofs.Common.{◌≡◌, ◌≤◌, ◌<◌, ◌+◌, ◌*◌, ◌^◌, ◌∙◌, ℕ, Bool, true, false, cond, List, [], ◌∷◌, length, take, drop, get_or, refl, arith, sum_by}
use Rattle.std.specs.Prelude.{◌&&◌, nat_lt, nat_le, map}
use Rattle.std.specs.List.{filter}
use Rattle.std.specs.List.Sorted.{IsPermutation, IsPartitionPoint}
use Rattle.std.proofs.lemmas.List.{get_or-take, get_or-drop, length-take-le, length-drop}
use Rattle.std.proofs.lemmas.List.Sums.{sum_by-cons, sum_by-take-drop}
use Rattle.std.proofs.lemmas.List.Sorted.{sum_by-IsPermutation}
use Rattle.std.proofs.lemmas.Bool.{cond-true, cond-false}
use Rattle.audit_base.specs.declared.terms.Side.{Side}
use Rattle.audit_base.specs.declared.terms.Side.TheVariants.{Buy, Sell}
use Rattle.audit_base.specs.declared.orders.Order.{Order}
use Rattle.audit_base.specs.Orders.{is_uncancelled_on}
use Rattle.audit_base.proofs.SumLemmas.{sum_by-same, sum_by-none, sum_by-add, All-each}
use Rattle.volume_bound.specs.declared.limits.LimitQuantity.{LimitQuantity}
use Rattle.volume_bound.specs.Sides.{HaveSumsOf}
use Rattle.volume_bound.specs.Limits.{limit_quantity_of, limits_on, quantity_of_limits, quantity_below, quantity_from}

-- where a test passes just the first n limits, they have the quantity of those that pass
pub first-passes : (test : LimitQuantity → Bool) (limits : List LimitQuantity) (n : ℕ) → n ≤ length limits → IsPartitionPoint (λ l. test l ≡ true) (λ l. test l ≡ false) limits n
    → sum_by (λ l. cond (test l) l.quantity 0) limits ≡ quantity_of_limits (take n limits)
first-passes test limits n le point =
    let f = λ (l : LimitQuantity). cond (test l) l.quantity 0 in
    let front : sum_by f (take n limits) ≡ quantity_of_limits (take n limits) = sum_by-same f (λ l. l.quantity) (take n limits) (λ k d lt.
    let below : k < n = omega (arith, length-take-le n limits le) in
    cond-true (test (get_or (take n limits) k d)) _ 0 (rw (get_or-take n limits k d below) (point.0 k d (omega arith) below))) in
    let back : sum_by f (drop n limits) ≡ 0 = sum_by-none f (drop n limits) (λ k d lt.
    cond-false (test (get_or (drop n limits) k d)) _ 0 (rw (get_or-drop n limits k d) (point.1 (n + k) d (omega arith) (omega (arith, length-drop n limits))))) in
    omega (arith, front, back, sum_by-take-drop f limits n)

below-or-from : (l : LimitQuantity) (p : ℕ) → l.quantity ≡ cond (nat_lt l.limit p) l.quantity 0 + cond (nat_le p l.limit) l.quantity 0
below-or-from l p = grind arith

-- a limit is below a price or from it on
pub below-and-from : (limits : List LimitQuantity) (p : ℕ) → quantity_of_limits limits ≡ quantity_below limits p + quantity_from limits p
below-and-from limits p =
    sum_by-same (λ l. l.quantity) (λ l. cond (nat_lt l.limit p) l.quantity 0 + cond (nat_le p l.limit) l.quantity 0) limits (All-each _ limits (λ l. below-or-from l p))
    ∙ sum_by-add (λ l. cond (nat_lt l.limit p) l.quantity 0) (λ l. cond (nat_le p l.limit) l.quantity 0) limits

cond-and : (a b : Bool) (x : ℕ) → cond a (cond b x 0) 0 ≡ cond (a && b) x 0
cond-and true b x = refl
cond-and false b x = refl

-- a sum over the limits of a side is one over its orders
head-sum : (f : LimitQuantity → ℕ) (b : Bool) (o : Order) (others : List Order) → sum_by f (map limit_quantity_of (cond b (o ∷ others) others)) ≡ cond b (f (limit_quantity_of o)) 0 + sum_by f (map limit_quantity_of others)
head-sum f true o others = sum_by-cons f (limit_quantity_of o) (map limit_quantity_of others)
head-sum f false o others = omega arith

pub side-sum : (f : LimitQuantity → ℕ) (side : Side) (orders : List Order) → sum_by f (limits_on side orders) ≡ sum_by (λ o. cond (is_uncancelled_on side o) (f (limit_quantity_of o)) 0) orders
side-sum f side [] = refl
side-sum f side (o ∷ orders) =
    let rest : sum_by f (limits_on side orders) ≡ sum_by (λ x. cond (is_uncancelled_on side x) (f (limit_quantity_of x)) 0) orders = side-sum f side orders in
    omega (arith, rest, head-sum f (is_uncancelled_on side o) o (filter (is_uncancelled_on side) orders), sum_by-cons (λ x. cond (is_uncancelled_on side x) (f (limit_quantity_of x)) 0) o orders)

-- sorted limits have the sums of the orders that they came from
module _ (test : LimitQuantity → Bool) (side : Side) (orders : List Order) (sorted : List LimitQuantity) (moved : IsPermutation (limits_on side orders) sorted) where
  pub sorted-sum : sum_by (λ l. cond (test l) l.quantity 0) sorted ≡ sum_by (λ o. cond (is_uncancelled_on side o && test (limit_quantity_of o)) o.quantity 0) orders
  sorted-sum =
      sum_by-IsPermutation (λ l. cond (test l) l.quantity 0) (limits_on side orders) sorted moved
      ∙ side-sum (λ l. cond (test l) l.quantity 0) side orders
      ∙ sum_by-same (λ o. cond (is_uncancelled_on side o) (cond (test (limit_quantity_of o)) o.quantity 0) 0) (λ o. cond (is_uncancelled_on side o && test (limit_quantity_of o)) o.quantity 0) orders (All-each _ orders (λ o. cond-and (is_uncancelled_on side o) (test (limit_quantity_of o)) o.quantity))

-- two sides of sorted limits have the sums of the orders
pub sides-have_sums : (orders : List Order) (bids asks : List LimitQuantity) → IsPermutation (limits_on Buy orders) bids → IsPermutation (limits_on Sell orders) asks → HaveSumsOf orders (record { bids = bids; asks = asks })
sides-have_sums orders bids asks bid_moves ask_moves = record {
  demands = λ p. sorted-sum (λ l. nat_le p l.limit) Buy orders bids bid_moves;
  supplies = λ p. sorted-sum (λ l. nat_le l.limit p) Sell orders asks ask_moves;
  supplies_below = λ p. sorted-sum (λ l. nat_lt l.limit p) Sell orders asks ask_moves;
}

-- the sum of the first n limits, so far
pub record IsSumSoFar (limits : List LimitQuantity) (n : ℕ) (sum : ℕ) : Type 0 where
  pub whole : sum ≡ quantity_of_limits (take n limits)
  pub bounded : sum ≤ n * 10 ^ 12
