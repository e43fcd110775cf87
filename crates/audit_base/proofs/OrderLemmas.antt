-- Orders of a list: their sides, their places, and which of them no record cancels.
use Rattle.std.proofs.Common.{◌≡◌, ◌<◌, ◌⊎◌, ℕ, List, length, true, Option, Some, None, refl, ap, arith, inl, inr}
use Rattle.std.specs.Prelude.{is_none}
use Rattle.std.proofs.lemmas.Bool.{cases_lt, cases_order, and_parts, and_from}
use Rattle.audit_base.specs.declared.terms.Side.{Side}
use Rattle.audit_base.specs.declared.terms.Side.TheVariants.{Buy, Sell}
use Rattle.audit_base.specs.declared.orders.Order.{Order}
use Rattle.audit_base.specs.Orders.{order_at, place_at, order_past_end, same_side, other_side, is_uncancelled_on, IsUncancelledOn, IsOrderList}

pub not_both_sides : Buy ≡ Sell → ⊥
not_both_sides e = cc

pub which_side : (s : Side) → (s ≡ Buy) ⊎ (s ≡ Sell)
which_side Buy = inl refl
which_side Sell = inr refl

pub same_side-is : (s t : Side) → same_side s t ≡ true → t ≡ s
same_side-is Buy Buy e = refl
same_side-is Buy Sell e = cc
same_side-is Sell Buy e = cc
same_side-is Sell Sell e = refl

pub same_side-itself : (s : Side) → same_side s s ≡ true
same_side-itself Buy = refl
same_side-itself Sell = refl

pub is-same_side : (s t : Side) → s ≡ t → same_side s t ≡ true
is-same_side s t e = rw e (same_side-itself t)

pub side-other : (s : Side) → s ≡ other_side s → ⊥
side-other Buy e = cc
side-other Sell e = cc

none_is : (o : Option ℕ) → is_none o ≡ true → o ≡ None
none_is None e = refl
none_is (Some x) e = cc

-- the test on an order says that no record cancels it
pub test-stands : (orders : List Order) (side : Side) (i : ℕ) → i < length orders → is_uncancelled_on side (order_at orders i) ≡ true → IsUncancelledOn orders side i
test-stands orders side i lt t =
    let parts = and_parts (is_none (order_at orders i).cancelled) (same_side side (order_at orders i).side) t in
    record { inside = lt; of_side = same_side-is side _ parts.1; uncancelled = none_is _ parts.0 }

pub stands-test : (orders : List Order) (side : Side) (i : ℕ) → IsUncancelledOn orders side i → is_uncancelled_on side (order_at orders i) ≡ true
stands-test orders side i s =
    let live : is_none (order_at orders i).cancelled ≡ true = ap is_none s.uncancelled in
    let sided : same_side side (order_at orders i).side ≡ true = rw s.of_side (same_side-itself side) in
    and_from _ _ live sided

is_live : (o : Option ℕ) → (o ≡ None) ⊎ (o ≡ None → ⊥)
is_live None = inl refl
is_live (Some x) = inr (λ e. cc)

-- each index is that of an uncancelled bid, of an uncancelled ask, or of neither
pub standing : (orders : List Order) (i : ℕ) → (IsUncancelledOn orders Buy i ⊎ IsUncancelledOn orders Sell i) ⊎ ((IsUncancelledOn orders Buy i → ⊥) × (IsUncancelledOn orders Sell i → ⊥))
standing orders i = elim (cases_lt i (length orders)) [
  | inr past ↦ inr ((λ s. let lt = s.inside in absurd (omega arith)), (λ s. let lt = s.inside in absurd (omega arith)))
  | inl lt ↦ elim (is_live (order_at orders i).cancelled) [
    | inr gone ↦ inr ((λ s. gone s.uncancelled), (λ s. gone s.uncancelled))
    | inl live ↦ elim (which_side (order_at orders i).side) [
      | inl buys ↦ inl (inl (record { inside = lt; of_side = buys; uncancelled = live }))
      | inr sells ↦ inl (inr (record { inside = lt; of_side = sells; uncancelled = live }))
    ]
  ]
]

-- places rise with the index, so that two orders of one place are one
pub place-rises : (orders : List Order) → IsOrderList orders → (i j : ℕ) → i < j → j < length orders → place_at orders i < place_at orders j
place-rises orders list i j lt below = list.rising i j order_past_end lt below

pub same_place : (orders : List Order) → IsOrderList orders → (i j : ℕ) → i < length orders → j < length orders → place_at orders i ≡ place_at orders j → i ≡ j
same_place orders list i j hi hj e = elim (cases_order i j) [
  | inl same ↦ same
  | inr ne ↦ elim ne [
    | inl less ↦ let k = place-rises orders list i j less hj in absurd (omega arith)
    | inr more ↦ let k = place-rises orders list j i more hi in absurd (omega arith)
  ]
]
