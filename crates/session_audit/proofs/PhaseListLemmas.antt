-- The order list of a phase is an order list, and regular where that of the day is.
use Rattle.std.proofs.Common.{◌≡◌, ◌<◌, ◌≤◌, ◌⊎◌, ℕ, List, length, get_or, true, false, Option, Some, None, refl, ap, sym, ◌∙◌, arith, inl, inr}
use Rattle.std.specs.Prelude.{nat_le}
use Rattle.std.proofs.lemmas.Bool.{cases_lt, cases_Bool, cases_order, cond-true, cond-false, le-leb, leb-true, both_ways}
use Rattle.std.proofs.lemmas.List.Sums.{prefix_len-le-length, prefix_len_passes, prefix_len_stops}
use Rattle.audit_base.specs.declared.orders.Order.{Order}
use Rattle.audit_base.specs.Orders.{order_at, place_at, side_at, order_past_end, IsOrderList}
use Rattle.audit_base.specs.Histories.{Regular}
use Rattle.audit_base.proofs.OrderLemmas.{place-rises, same_place}
use Rattle.audit_base.proofs.OffenceLemmas.{get_or-default}
use Rattle.session_audit.specs.PhaseOrders.{RoleInPhase, Carried, Own, Gone, takes_part, target_takes_part, roles_in_phase, role_in_phase, end_through, phase_order, order_count_through, phase_list}
use Rattle.session_audit.specs.Entering.{amount_in_phase}
use Rattle.session_audit.proofs.ListBelowLemmas.{length-list_below, list_below-at}
use Rattle.session_audit.proofs.InPhaseLemmas.{HasAmount, own-target, target-stays}

-- An order of the list of a phase, and what it keeps.

pub keeps : {A : Type 0} (g : Order → A) → ((o : Order) (q : ℕ) (c t : Option ℕ) → g (record o { quantity = q; cancelled = c; target = t }) ≡ g o) → (last : ℕ) (o : Order) (x : RoleInPhase) → g (phase_order last o x) ≡ g o
keeps g same last o (Carried left) = same o left (end_through last o.cancelled) None
keeps g same last o (Own quantity) = same o quantity (end_through last o.cancelled) o.target
keeps g same last o Gone = same o o.quantity (Some o.place) None

-- its quantity is its number, or the written one
pub quantity-le : (last : ℕ) (o : Order) (x : RoleInPhase) → amount_in_phase x ≤ o.quantity → (phase_order last o x).quantity ≤ o.quantity
quantity-le last o (Carried left) le = le
quantity-le last o (Own quantity) le = le
quantity-le last o Gone le = omega arith

pub quantity-some : (last : ℕ) (o : Order) (x : RoleInPhase) → HasAmount x → 0 < o.quantity → 0 < (phase_order last o x).quantity
quantity-some last o (Carried left) some written = some
quantity-some last o (Own quantity) some written = some
quantity-some last o Gone some written = written

-- an order that takes part is cancelled where it is in the day, if by `last`
pub present-cancelled : (last : ℕ) (o : Order) (x : RoleInPhase) → takes_part x ≡ true → (phase_order last o x).cancelled ≡ end_through last o.cancelled
present-cancelled last o (Carried left) e = refl
present-cancelled last o (Own quantity) e = refl
present-cancelled last o Gone e = absurd (cc)

none-some : (t : ℕ) → None ≡ Some t → ⊥
none-some t e = cc

-- an order with a target is own, and has its own target
pub order-target : (last : ℕ) (o : Order) (x : RoleInPhase) (t : ℕ) → (phase_order last o x).target ≡ Some t → (q : ℕ) × (x ≡ Own q) × (o.target ≡ Some t)
order-target last o (Carried left) t e = absurd (none-some t e)
order-target last o (Own quantity) t e = (quantity, refl, e)
order-target last o Gone t e = absurd (none-some t e)

some-same : (a b : ℕ) → Some a ≡ Some b → a ≡ b
some-same a b e = cc

pub ended-is : (last c : ℕ) (o : Option ℕ) → end_through last o ≡ Some c → (o ≡ Some c) × (c ≤ last)
ended-is last c None e = absurd (none-some c e)
ended-is last c (Some x) e = elim (cases_Bool (nat_le x last)) [
  | inl t ↦ let same : x ≡ c = some-same x c (sym (cond-true (nat_le x last) (Some x) None t) ∙ e) in (ap Some same, (let le = leb-true x last t in omega arith))
  | inr f ↦ absurd (none-some c (sym (cond-false (nat_le x last) (Some x) None f) ∙ e))
]

pub is-ended : (last c : ℕ) (o : Option ℕ) → o ≡ Some c → c ≤ last → end_through last o ≡ Some c
is-ended last c o e le = ap (end_through last) e ∙ cond-true (nat_le c last) (Some c) None (le-leb _ _ le)

-- it is cancelled where the order is, and by `last`, or it is gone and cancelled at its own place
pub order-cancelled : (last : ℕ) (o : Order) (x : RoleInPhase) (c : ℕ) → (phase_order last o x).cancelled ≡ Some c → ((o.cancelled ≡ Some c) × (c ≤ last)) ⊎ (c ≡ o.place)
order-cancelled last o (Carried left) c e = inl (ended-is last c o.cancelled e)
order-cancelled last o (Own quantity) c e = inl (ended-is last c o.cancelled e)
order-cancelled last o Gone c e = inr (some-same c o.place (sym e))

-- places rise from index to index
abbrev pub Rises : List Order → Type 0
Rises orders = (i j : ℕ) → i < j → j < length orders → place_at orders i < place_at orders j

module _ (orders : List Order) (last : ℕ) where
  -- the orders up to a place are those of at most this place
  pub upto-inside : order_count_through orders last ≤ length orders
  upto-inside = prefix_len-le-length (λ (o : Order). nat_le o.place last) orders

  pub upto-below : (i : ℕ) → i < order_count_through orders last → place_at orders i ≤ last
  upto-below i lt = leb-true _ _ (prefix_len_passes (λ (o : Order). nat_le o.place last) orders i order_past_end lt)

  pub below-upto : Rises orders → (i : ℕ) → i < length orders → place_at orders i ≤ last → i < order_count_through orders last
  below-upto rises i lt le = elim (cases_lt i (order_count_through orders last)) [
    | inl below ↦ below
    | inr above ↦
        let n : ℕ = order_count_through orders last in
        let stops : nat_le (place_at orders n) last ≡ false = prefix_len_stops (λ (o : Order). nat_le o.place last) orders order_past_end (omega arith) in
        let rises : place_at orders n ≤ place_at orders i = elim (cases_order n i) [
          | inl e ↦ let s : place_at orders n ≡ place_at orders i = ap (place_at orders) e in omega arith
          | inr ne ↦ elim ne [ inl less ↦ let r = rises n i less lt in omega arith | inr more ↦ absurd (omega arith) ]
        ] in
        absurd (both_ways _ stops (le-leb (place_at orders n) last (omega arith)))
  ]

  module _ (first : ℕ) (rest spent : ℕ → ℕ) where
    abbrev pub phase : List Order
    phase = phase_list orders first last rest spent

    abbrev what : ℕ → RoleInPhase
    what = role_in_phase orders first rest spent

    abbrev entry : ℕ → Order
    entry i = phase_order last (order_at orders i) (what i)

    pub phase-length : length phase ≡ order_count_through orders last
    unfolding phase_list
    phase-length = length-list_below entry (order_count_through orders last)

    pub phase-get : (i : ℕ) (d : Order) → i < order_count_through orders last → get_or phase i d ≡ entry i
    unfolding phase_list
    phase-get i d lt = list_below-at entry (order_count_through orders last) i d lt

    pub phase-at : (i : ℕ) → i < length phase → order_at phase i ≡ entry i
    phase-at i lt = phase-get i order_past_end (let e = phase-length in omega arith)

    pub phase-inside : (i : ℕ) → i < length phase → i < length orders
    phase-inside i lt = let e = phase-length in let m = upto-inside in omega arith

    pub phase-place : (i : ℕ) → i < length phase → place_at phase i ≡ place_at orders i
    phase-place i lt = ap (λ (o : Order). o.place) (phase-at i lt) ∙ keeps (λ o. o.place) (λ o q c t. refl) last (order_at orders i) (what i)

    pub phase-side : (i : ℕ) → i < length phase → side_at phase i ≡ side_at orders i
    phase-side i lt = ap (λ (o : Order). o.side) (phase-at i lt) ∙ keeps (λ o. o.side) (λ o q c t. refl) last (order_at orders i) (what i)

    pub phase-life : (i : ℕ) → i < length phase → (order_at phase i).life ≡ (order_at orders i).life
    phase-life i lt = ap (λ (o : Order). o.life) (phase-at i lt) ∙ keeps (λ o. o.life) (λ o q c t. refl) last (order_at orders i) (what i)

    pub phase-upto : (i : ℕ) → i < length phase → place_at orders i ≤ last
    phase-upto i lt = upto-below i (let e = phase-length in omega arith)

    pub phase-below : Rises orders → (i : ℕ) → i < length orders → place_at orders i ≤ last → i < length phase
    phase-below rises i lt le = let e = phase-length in let b = below-upto rises i lt le in omega arith

    pub phase-target : (i t : ℕ) → i < length phase → (order_at phase i).target ≡ Some t → (q : ℕ) × (what i ≡ Own q) × ((order_at orders i).target ≡ Some t)
    phase-target i t lt e = order-target last (order_at orders i) (what i) t (sym (ap (λ (o : Order). o.target) (phase-at i lt)) ∙ e)

    phase-cancelled : (i c : ℕ) → i < length phase → (order_at phase i).cancelled ≡ Some c → (((order_at orders i).cancelled ≡ Some c) × (c ≤ last)) ⊎ (c ≡ place_at orders i)
    phase-cancelled i c lt e = order-cancelled last (order_at orders i) (what i) c (sym (ap (λ (o : Order). o.cancelled) (phase-at i lt)) ∙ e)

    module _ (list : IsOrderList orders) where
      pub list_below-phase : IsOrderList phase
      list_below-phase = record {
        rising = λ i j d less lt.
            let inside = phase-inside j lt in
            let r = place-rises orders list i j less inside in
            let a : (get_or phase i d).place ≡ place_at phase i = ap (λ (o : Order). o.place) (get_or-default phase i d order_past_end (omega arith)) in
            let b : (get_or phase j d).place ≡ place_at phase j = ap (λ (o : Order). o.place) (get_or-default phase j d order_past_end lt) in
            let x = phase-place i (omega arith) in
            let y = phase-place j lt in
            omega arith;
        fits_indices = let f = list.fits_indices in let e = phase-length in let m = upto-inside in omega arith;
        targets = λ i t lt e.
            let p = phase-target i t lt e in
            let is = list.targets i t (phase-inside i lt) p.2 in
            let less = is.0 in
            (less, phase-side t (omega arith) ∙ is.1 ∙ sym (phase-side i lt));
        resting = λ i t lt e. phase-life i lt ∙ list.resting i t (phase-inside i lt) (phase-target i t lt e).2;
      }

      pub regular-phase : Regular orders → Regular phase
      regular-phase regular = record {
        own = λ i c lt e.
            let p = phase-place i lt in
            elim (phase-cancelled i c lt e) [
              | inl of ↦ let o = regular.own i c (phase-inside i lt) of.0 in omega arith
              | inr gone ↦ omega arith
            ];
        same_sides = λ i j hi hj e.
            let p = phase-place j hj in
            let inside = phase-inside i hi in
            let inside_j = phase-inside j hj in
            elim (phase-cancelled i (place_at phase j) hi e) [
              | inl of ↦ phase-side j hj ∙ regular.same_sides i j inside inside_j (of.0 ∙ ap Some p) ∙ sym (phase-side i hi)
              | inr gone ↦ ap (side_at phase) (same_place orders list j i inside_j inside (sym p ∙ gone))
            ];
        targets = λ i t lt e.
            let p = phase-target i t lt e in
            let inside = phase-inside i lt in
            let is = list.targets i t inside p.2 in
            let less = is.0 in
            let r = regular.targets i t inside p.2 in
            let le = r.2 in
            let stays : takes_part (what t) ≡ true = sym (target-stays orders first rest spent i t less) ∙ sym (ap (target_takes_part (roles_in_phase orders first rest spent i)) p.2) ∙ own-target orders first rest spent i p.0 p.1 in
            let upto = phase-upto i lt in
            let t_at : (order_at phase t).cancelled ≡ end_through last (order_at orders t).cancelled = ap (λ (o : Order). o.cancelled) (phase-at t (omega arith)) ∙ present-cancelled last (order_at orders t) (what t) stays in
            let here = phase-place i lt in
            (r.0, t_at ∙ is-ended last r.0 (order_at orders t).cancelled r.1 (omega arith), omega arith);
      }

pub phase-is_list : (orders : List Order) → IsOrderList orders → (last first : ℕ) (rest spent : ℕ → ℕ) → IsOrderList (phase_list orders first last rest spent)
phase-is_list orders list last first rest spent = list_below-phase orders last first rest spent list

pub phase-is_regular : (orders : List Order) → IsOrderList orders → (last first : ℕ) (rest spent : ℕ → ℕ) → Regular orders → Regular (phase_list orders first last rest spent)
phase-is_regular orders list last first rest spent = regular-phase orders last first rest spent list
