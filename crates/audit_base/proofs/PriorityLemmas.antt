-- Better is a strict total order on the orders of a side of an order list, and of some orders of a side exactly one is best.
use Rattle.std.proofs.Common.{◌≡◌, ◌≢◌, ◌<◌, ◌⊎◌, ℕ, zero, suc, List, length, Bool, true, false, Some, refl, sym, ap, ◌∙◌, arith, inl, inr, ltb, eqb}
use Rattle.std.specs.Prelude.{◌&&◌, ◌||◌, ◌==◌, nat_lt, not}
use Rattle.std.proofs.lemmas.Bool.{cases_Bool, cases_eq, and_parts, and_from, and_right, or_cases, ltb-true, eqb-true, both_ways}
use Rattle.audit_base.specs.declared.terms.Side.{Side}
use Rattle.audit_base.specs.declared.terms.Side.TheVariants.{Buy, Sell}
use Rattle.audit_base.specs.declared.orders.Order.{Order}
use Rattle.audit_base.specs.Least.{any_below}
use Rattle.audit_base.specs.Orders.{order_at, side_at, same_side, IsOrderList}
use Rattle.audit_base.specs.Priority.{outranks, better, Better, best_order}
use Rattle.audit_base.proofs.OrderLemmas.{same_side-is, is-same_side, same_place}
use Rattle.audit_base.proofs.LeastLemmas.{any-none, none-any, with-found, with-exists}

-- on limits and places alone

strict : (a s : ℕ) → (nat_lt a a || ((a == a) && nat_lt s s)) ≡ false
strict a s = grind arith

bids-onward : (a b c s t u : ℕ) → (nat_lt b a || ((a == b) && nat_lt s t)) ≡ true → (nat_lt c b || ((b == c) && nat_lt t u)) ≡ true → (nat_lt c a || ((a == c) && nat_lt s u)) ≡ true
bids-onward a b c s t u h k = grind arith

asks-onward : (a b c s t u : ℕ) → (nat_lt a b || ((a == b) && nat_lt s t)) ≡ true → (nat_lt b c || ((b == c) && nat_lt t u)) ≡ true → (nat_lt a c || ((a == c) && nat_lt s u)) ≡ true
asks-onward a b c s t u h k = grind arith

bids-total : (a b s t : ℕ) → s ≢ t → ((nat_lt b a || ((a == b) && nat_lt s t)) ≡ true) ⊎ ((nat_lt a b || ((b == a) && nat_lt t s)) ≡ true)
bids-total a b s t ne = grind arith

asks-total : (a b s t : ℕ) → s ≢ t → ((nat_lt a b || ((a == b) && nat_lt s t)) ≡ true) ⊎ ((nat_lt b a || ((b == a) && nat_lt t s)) ≡ true)
asks-total a b s t ne = grind arith

-- on two orders of one side

pub outranks-strict : (side : Side) (o : Order) → outranks side o o ≡ false
outranks-strict Buy o = strict o.limit o.place
outranks-strict Sell o = strict o.limit o.place

pub outranks-onward : (side : Side) (o p q : Order) → outranks side o p ≡ true → outranks side p q ≡ true → outranks side o q ≡ true
outranks-onward Buy o p q = bids-onward o.limit p.limit q.limit o.place p.place q.place
outranks-onward Sell o p q = asks-onward o.limit p.limit q.limit o.place p.place q.place

pub outranks-total : (side : Side) (o p : Order) → o.place ≢ p.place → (outranks side o p ≡ true) ⊎ (outranks side p o ≡ true)
outranks-total Buy o p = bids-total o.limit p.limit o.place p.place
outranks-total Sell o p = asks-total o.limit p.limit o.place p.place

-- what a rank says of limits and places, for bids and for asks
pub bid-outranks : (o p : Order) → outranks Buy o p ≡ true → (p.limit < o.limit) ⊎ ((o.limit ≡ p.limit) × (o.place < p.place))
bid-outranks o p t = elim (or_cases (ltb p.limit o.limit) (eqb o.limit p.limit && ltb o.place p.place) t) [
  | inl lt ↦ inl (ltb-true _ _ lt)
  | inr both ↦ let parts = and_parts (eqb o.limit p.limit) (ltb o.place p.place) both in inr (eqb-true _ _ parts.0, ltb-true _ _ parts.1)
]

pub ask-outranks : (o p : Order) → outranks Sell o p ≡ true → (o.limit < p.limit) ⊎ ((o.limit ≡ p.limit) × (o.place < p.place))
ask-outranks o p t = elim (or_cases (ltb o.limit p.limit) (eqb o.limit p.limit && ltb o.place p.place) t) [
  | inl lt ↦ inl (ltb-true _ _ lt)
  | inr both ↦ let parts = and_parts (eqb o.limit p.limit) (ltb o.place p.place) both in inr (eqb-true _ _ parts.0, ltb-true _ _ parts.1)
]

pub better-side : (o p : Order) → better o p ≡ true → p.side ≡ o.side
better-side o p t = same_side-is o.side p.side ((and_parts (same_side o.side p.side) (outranks o.side o p) t).0)

pub better-outranks : (o p : Order) → better o p ≡ true → outranks o.side o p ≡ true
better-outranks o p t = (and_parts (same_side o.side p.side) (outranks o.side o p) t).1

pub outranks-better : (side : Side) (o p : Order) → o.side ≡ side → p.side ≡ side → outranks side o p ≡ true → better o p ≡ true
outranks-better side o p a b t = and_from _ _ (is-same_side o.side p.side (a ∙ sym b)) (rw a t)

pub better-strict : (o : Order) → better o o ≡ false
better-strict o = and_right (same_side o.side o.side) _ (outranks-strict o.side o)

pub better-onward : (o p q : Order) → better o p ≡ true → better p q ≡ true → better o q ≡ true
better-onward o p q a b =
    let sp = better-side o p a in
    let sq = better-side p q b in
    let second : outranks o.side p q ≡ true = rw (← sp) (better-outranks p q b) in
    outranks-better o.side o q refl (sq ∙ sp) (outranks-onward o.side o p q (better-outranks o p a) second)

pub better-total : (o p : Order) → o.side ≡ p.side → o.place ≢ p.place → (better o p ≡ true) ⊎ (better p o ≡ true)
better-total o p s ne = elim (outranks-total o.side o p ne) [
  | inl t ↦ inl (outranks-better o.side o p refl (sym s) t)
  | inr t ↦ inr (outranks-better o.side p o (sym s) refl t)
]

-- Better on the orders of an order list: strict, transitive, and total on each side

pub Better-strict : (orders : List Order) (i : ℕ) → Better orders i i → ⊥
Better-strict orders i b = both_ways _ (better-strict (order_at orders i)) b

pub Better-onward : (orders : List Order) (i j k : ℕ) → Better orders i j → Better orders j k → Better orders i k
Better-onward orders i j k a b = better-onward (order_at orders i) (order_at orders j) (order_at orders k) a b

pub Better-one_way : (orders : List Order) (i j : ℕ) → Better orders i j → Better orders j i → ⊥
Better-one_way orders i j a b = Better-strict orders i (Better-onward orders i j i a b)

pub Better-total : (orders : List Order) → IsOrderList orders → (i j : ℕ) → i < length orders → j < length orders → side_at orders i ≡ side_at orders j → i ≢ j
    → Better orders i j ⊎ Better orders j i
Better-total orders list i j hi hj s ne = better-total (order_at orders i) (order_at orders j) s (λ e. ne (same_place orders list i j hi hj e))

-- The best.

-- the order at i passes the test, and none that passes is better
pub record IsBest (orders : List Order) (test : ℕ → Bool) (i : ℕ) : Type 0 where
  pub inside : i < length orders
  pub passes : test i ≡ true
  pub none_better : (j : ℕ) → j < length orders → test j ≡ true → Better orders j i → ⊥

abbrev is_better : List Order → (ℕ → Bool) → ℕ → ℕ → Bool
is_better orders test i j = test j && better (order_at orders j) (order_at orders i)

abbrev is_best : List Order → (ℕ → Bool) → ℕ → Bool
is_best orders test i = test i && not (any_below (is_better orders test i) (length orders))

not-true : (b : Bool) → not b ≡ true → b ≡ false
not-true true e = cc
not-true false e = refl

not-false : (b : Bool) → b ≡ false → not b ≡ true
not-false true e = cc
not-false false e = refl

test-best : (orders : List Order) (test : ℕ → Bool) (i : ℕ) → i < length orders → is_best orders test i ≡ true → IsBest orders test i
test-best orders test i lt t =
    let parts = and_parts (test i) (not (any_below (is_better orders test i) (length orders))) t in
    let none = none-any (is_better orders test i) (length orders) (not-true _ parts.1) in
    record { inside = lt; passes = parts.0; none_better = λ j below u b. both_ways _ (none j below) (and_from _ _ u b) }

best-test : (orders : List Order) (test : ℕ → Bool) (i : ℕ) → IsBest orders test i → is_best orders test i ≡ true
best-test orders test i h = and_from _ _ h.passes (not-false _ (any-none (is_better orders test i) (length orders) (λ j below. elim (cases_Bool (is_better orders test i j)) [
  | inr under ↦ under
  | inl over ↦ let parts = and_parts (test j) (better (order_at orders j) (order_at orders i)) over in absurd (h.none_better j below parts.0 parts.1)
])))

-- what `best_order` gives is best
pub best-is : (orders : List Order) (test : ℕ → Bool) (i : ℕ) → best_order orders test ≡ Some i → IsBest orders test i
unfolding best_order
best-is orders test i e = let r = with-found (is_best orders test) (length orders) i e in test-best orders test i r.0 r.1

-- of the passing orders below n, one is such that none of them is better
best_below : (orders : List Order) (test : ℕ → Bool) (n : ℕ) → ((j : ℕ) → j < n → test j ≡ false)
    ⊎ ((i : ℕ) × (i < n) × (test i ≡ true) × ((j : ℕ) → j < n → test j ≡ true → Better orders j i → ⊥))
best_below orders test zero = inl (λ j lt. absurd (omega arith))
best_below orders test (suc n) = elim (cases_Bool (test n)) [
  | inr fails ↦ elim (best_below orders test n) [
    | inl none ↦ inl (λ j lt. elim (cases_eq j n) [ inl e ↦ rw e fails | inr ne ↦ none j (omega (arith, ne)) ])
    | inr found ↦ inr (
      found.0,
      omega (arith, found.1),
      found.2,
      λ j lt t b. elim (cases_eq j n) [
        | inl e ↦ let u : test j ≡ false = rw e fails in both_ways _ u t
        | inr ne ↦ found.3 j (omega (arith, ne)) t b
      ],
    )
  ]
  | inl passes ↦ elim (best_below orders test n) [
    | inl none ↦ inr (
      n,
      omega arith,
      passes,
      λ j lt t b. elim (cases_eq j n) [
        | inl e ↦ let s : Better orders n n = rw e at b in Better-strict orders n s
        | inr ne ↦ both_ways _ (none j (omega (arith, ne))) t
      ],
    )
    | inr found ↦ elim (cases_Bool (better (order_at orders n) (order_at orders found.0))) [
      | inl over ↦ inr (
        n,
        omega arith,
        passes,
        λ j lt t b. elim (cases_eq j n) [
          | inl e ↦ let s : Better orders n n = rw e at b in Better-strict orders n s
          | inr ne ↦ found.3 j (omega (arith, ne)) t (Better-onward orders j n found.0 b over)
        ],
      )
      | inr under ↦ inr (
        found.0,
        omega (arith, found.1),
        found.2,
        λ j lt t b. elim (cases_eq j n) [
          | inl e ↦ let s : Better orders n found.0 = rw e at b in both_ways _ under s
          | inr ne ↦ found.3 j (omega (arith, ne)) t b
        ],
      )
    ]
  ]
]

-- where an order passes, there is a best one
pub best-exists : (orders : List Order) (test : ℕ → Bool) (k : ℕ) → k < length orders → test k ≡ true → (i : ℕ) × (best_order orders test ≡ Some i)
unfolding best_order
best-exists orders test k lt t = elim (best_below orders test (length orders)) [
  | inl none ↦ absurd (both_ways _ (none k lt) t)
  | inr found ↦ with-exists (is_best orders test) (length orders) found.0 found.1 (best-test orders test found.0 (record { inside = found.1; passes = found.2; none_better = found.3 }))
]

-- where all that pass are of one side, there is only one best
pub best-one : (orders : List Order) → IsOrderList orders → (test : ℕ → Bool) (side : Side) → ((k : ℕ) → k < length orders → test k ≡ true → side_at orders k ≡ side)
    → (i j : ℕ) → IsBest orders test i → IsBest orders test j → i ≡ j
best-one orders list test side sided i j a b = elim (cases_eq i j) [
  | inl e ↦ e
  | inr ne ↦ elim (Better-total orders list i j a.inside b.inside (sided i a.inside a.passes ∙ sym (sided j b.inside b.passes)) ne) [
    | inl over ↦ absurd (b.none_better i a.inside a.passes over)
    | inr under ↦ absurd (a.none_better j b.inside b.passes under)
  ]
]

-- so what is best is what `best_order` gives
pub is-best : (orders : List Order) → IsOrderList orders → (test : ℕ → Bool) (side : Side) → ((k : ℕ) → k < length orders → test k ≡ true → side_at orders k ≡ side)
    → (i : ℕ) → IsBest orders test i → best_order orders test ≡ Some i
is-best orders list test side sided i a =
    let found = best-exists orders test i a.inside a.passes in
    found.1 ∙ ap (λ (k : ℕ). Some k) (best-one orders list test side sided found.0 i (best-is orders test found.0 found.1) a)
