-- The best of the orders so far is kept from one to the next, and at their end it is
-- the best short order.
use Rattle.std.proofs.Common.{◌≡◌, ◌<◌, ◌≤◌, ℕ, suc, List, length, Bool, true, false, Option, None, Some, sym, ap, ◌∙◌, subst, arith, inl, inr}
use Rattle.std.specs.Prelude.{◌&&◌, nat_lt, slice_index, IfSome}
use Rattle.std.proofs.lemmas.Bool.{cases_Bool, cases_eq, and_parts, both_ways}
use Rattle.audit_base.specs.declared.terms.Side.{Side}
use Rattle.audit_base.specs.declared.orders.Order.{Order}
use Rattle.audit_base.specs.declared.orders.Deal.{Deal}
use Rattle.audit_base.specs.Orders.{order_at, quantity_at, is_uncancelled_on, IsUncancelledOn, IsOrderList}
use Rattle.audit_base.specs.Priority.{better, Better, best_order}
use Rattle.audit_base.specs.Deals.{AreTotals}
use Rattle.audit_base.specs.CallOffences.{is_short, best_short}
use Rattle.audit_base.proofs.LeastLemmas.{cases_Option}
use Rattle.audit_base.proofs.OrderLemmas.{test-stands}
use Rattle.audit_base.proofs.PriorityLemmas.{Better-strict, Better-onward, best-is, is-best}
use Rattle.short_order.specs.ShortOrders.{is_short_on}
use Rattle.short_order.specs.Searching.{IsBestBelow, IsFoundBelow, next_best}

module _ (orders : List Order) (test : ℕ → Bool) where
  -- the first that passes
  first-held : (n : ℕ) → IsFoundBelow orders test n None → test n ≡ true → IsBestBelow orders test (suc n) n
  first-held n none t = record {
    below = omega arith;
    passes = t;
    none_better = λ j lt u b. elim (cases_eq j n) [
      | inl e ↦ Better-strict orders n (subst (λ k. Better orders k n) e b)
      | inr ne ↦ both_ways _ (none j (omega (arith, ne))) u
    ];
  }

  -- a better one
  better-held : (n i : ℕ) → IsBestBelow orders test n i → test n ≡ true → better (order_at orders n) (order_at orders i) ≡ true → IsBestBelow orders test (suc n) n
  better-held n i is t over = record {
    below = omega arith;
    passes = t;
    none_better = λ j lt u b. elim (cases_eq j n) [
      | inl e ↦ Better-strict orders n (subst (λ k. Better orders k n) e b)
      | inr ne ↦ is.none_better j (omega (arith, ne)) u (Better-onward orders j n i b over)
    ];
  }

  -- one that is not better, or does not pass
  same-held : (n i : ℕ) → IsBestBelow orders test n i → (test n ≡ true → Better orders n i → ⊥) → IsBestBelow orders test (suc n) i
  same-held n i is under = record {
    below = let lt = is.below in omega arith;
    passes = is.passes;
    none_better = λ j lt u b. elim (cases_eq j n) [
      | inl e ↦ under (subst (λ k. test k ≡ true) e u) (subst (λ k. Better orders k i) e b)
      | inr ne ↦ is.none_better j (omega (arith, ne)) u b
    ];
  }

  none-held : (n : ℕ) → IsFoundBelow orders test n None → test n ≡ false → IsFoundBelow orders test (suc n) None
  none-held n none f = λ j lt. elim (cases_eq j n) [
    | inl e ↦ subst (λ k. test k ≡ false) (sym e) f
    | inr ne ↦ none j (omega (arith, ne))
  ]

  pub found-next : (n : ℕ) (held : Option ℕ) → IsFoundBelow orders test n held → IsFoundBelow orders test (suc n) (next_best orders test held n)
  found-next n None none = elim (cases_Bool (test n)) [
    | inl t ↦ rw t (first-held n none t)
    | inr f ↦ rw f (none-held n none f)
  ]
  found-next n (Some i) is = elim (cases_Bool (test n)) [
    | inl t ↦ elim (cases_Bool (better (order_at orders n) (order_at orders i))) [
      | inl over ↦ rw (t, over) (better-held n i is t over)
      | inr under ↦ rw (t, under) (same-held n i is (λ u b. both_ways _ under b))
    ]
    | inr f ↦ rw f (same-held n i is (λ u b. both_ways _ f u))
  ]

-- what is short on a side is of it, and no record cancels it
pub short-stands : (orders : List Order) (traded : List ℕ) (side : Side) (i : ℕ) → i < length orders → is_short_on orders traded side i ≡ true → IsUncancelledOn orders side i
short-stands orders traded side i lt t =
    test-stands orders side i lt ((and_parts (is_uncancelled_on side (order_at orders i)) (nat_lt (slice_index traded i) (quantity_at orders i)) t).0)

pub held-stands : (orders : List Order) (traded : List ℕ) (side : Side) (n : ℕ) (held : Option ℕ) → n ≤ length orders → IsFoundBelow orders (is_short_on orders traded side) n held → IfSome held (IsUncancelledOn orders side)
held-stands orders traded side n None le is = tt
held-stands orders traded side n (Some i) le is = let lt = is.below in short-stands orders traded side i (omega arith) is.passes

pub held-inside : (orders : List Order) (test : ℕ → Bool) (held : Option ℕ) → IsFoundBelow orders test (length orders) held → IfSome held (λ i. i < length orders)
held-inside orders test None is = tt
held-inside orders test (Some i) is = is.below

-- a test that only orders of one side pass: what is found at the end is the best
pub found-best : (orders : List Order) → IsOrderList orders → (side : Side) (test : ℕ → Bool) → ((i : ℕ) → i < length orders → test i ≡ true → IsUncancelledOn orders side i)
    → (held : Option ℕ) → IsFoundBelow orders test (length orders) held → held ≡ best_order orders test
found-best orders list side test stands None none = elim (cases_Option (best_order orders test)) [
  | inl nothing ↦ sym nothing
  | inr (j, e) ↦ let b = best-is orders test j e in absurd (both_ways _ (none j b.inside) b.passes)
]
found-best orders list side test stands (Some i) is =
    sym (is-best orders list test side (λ k lt t. (stands k lt t).of_side) i (record { inside = is.below; passes = is.passes; none_better = is.none_better }))

-- where the numbers are the totals of deals, the same orders are short
module _ (orders : List Order) (numbers : List ℕ) (deals : List Deal) (totals : AreTotals orders deals numbers) (side : Side) where
  short-same : (i : ℕ) → i < length orders → is_short_on orders numbers side i ≡ is_short orders deals side i
  short-same i lt = ap (λ (n : ℕ). is_uncancelled_on side (order_at orders i) && nat_lt n (quantity_at orders i)) (totals.each i lt)

  found-same : (held : Option ℕ) → IsFoundBelow orders (is_short_on orders numbers side) (length orders) held → IsFoundBelow orders (is_short orders deals side) (length orders) held
  found-same None none = λ j lt. sym (short-same j lt) ∙ none j lt
  found-same (Some i) is = record {
    below = is.below;
    passes = sym (short-same i is.below) ∙ is.passes;
    none_better = λ j lt t. is.none_better j lt (short-same j lt ∙ t);
  }

  -- so what is found is the best short order
  pub best-found : IsOrderList orders → (held : Option ℕ) → IsFoundBelow orders (is_short_on orders numbers side) (length orders) held → held ≡ best_short orders deals side
  unfolding best_short
  best-found list held is = found-best orders list side (is_short orders deals side)
      (λ i lt t. short-stands orders numbers side i lt (short-same i lt ∙ t)) held (found-same held is)
