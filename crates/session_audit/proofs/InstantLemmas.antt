-- Finding 16 by what is known of an order by itself.
use Rattle.std.proofs.Common.{◌≡◌, ◌<◌, ◌≤◌, ◌-◌, ℕ, zero, suc, List, length, Bool, true, false, Some, None, refl, ap, sym, ◌∙◌, arith, inl, inr, sum_by, cond}
use Rattle.std.specs.Prelude.{nat_lt, nat_le, ◌&&◌, ◌||◌, not, option_map}
use Rattle.std.specs.Option.{option_or}
use Rattle.std.proofs.lemmas.Bool.{cases_Bool, lt-ltb, leb-true, and_from, and_parts, both_ways}
use Rattle.audit_base.specs.declared.terms.Which.TheVariants as which
use Rattle.audit_base.specs.declared.terms.Life.{Life}
use Rattle.audit_base.specs.declared.terms.Life.TheVariants.{Rests}
use Rattle.audit_base.specs.declared.orders.Order.{Order}
use Rattle.audit_base.specs.declared.orders.Deal.{Deal}
use Rattle.audit_base.specs.declared.findings.Property.TheVariants as property
use Rattle.audit_base.specs.Shows.{finding_at_record}
use Rattle.audit_base.specs.Least.{any_below, least_with}
use Rattle.audit_base.specs.Orders.{order_at, place_at, quantity_at, order_past_end, may_rest, IsOrderList, OrdersInRange}
use Rattle.audit_base.specs.Continuous.{is_placed_order}
use Rattle.audit_base.proofs.ContinuousLemmas.{chain-none}
use Rattle.audit_base.proofs.LeastLemmas.{with-at, none-with, cases_Option}
use Rattle.session_audit.specs.declared.phases.Phase.{Phase}
use Rattle.session_audit.specs.Phases.{is_call, phase_kind, first_place, end_place, is_in_phase}
use Rattle.session_audit.specs.PhaseOrders.{Own, Gone, takes_part, target_takes_part, roles_in_phase, role_in_phase_at, chain_before_phase, traded_before_phase, left_after_phases}
use Rattle.session_audit.specs.Days.{is_own, is_instant_in_call, instant_finding}
use Rattle.session_audit.specs.Instants.{is_in_any_call, is_instant_order, first_instant_of_day}
use Rattle.session_audit.proofs.InPhaseLemmas.{is-own}

-- the least finding, in the words of the code
pub first-at : (phases : List Phase) (orders : List Order) (i : ℕ) (o : Order) → o ≡ order_at orders i → i < length orders → least_with (λ k. is_instant_order phases (order_at orders k)) i ≡ None → is_instant_order phases (order_at orders i) ≡ true
    → Some (finding_at_record property.InstantOrder which.Orders o.place None None) ≡ first_instant_of_day phases orders
first-at phases orders i o same lt before here =
    let test : ℕ → Bool = λ k. is_instant_order phases (order_at orders k) in
    let first : least_with test (length orders) ≡ Some i = with-at test (length orders) i lt here (none-with test i before) in
    ap (λ (x : Order). Some (finding_at_record property.InstantOrder which.Orders x.place None None)) same
    ∙ ap (option_map (λ (k : ℕ). finding_at_record property.InstantOrder which.Orders (place_at orders k) None None)) (sym first)

with-same : (f g : ℕ → Bool) (n : ℕ) → ((k : ℕ) → k < n → f k ≡ g k) → least_with f n ≡ least_with g n
with-same f g zero h = refl
with-same f g (suc n) h =
    let front : least_with f n ≡ least_with g n = with-same f g n (λ k lt. h k (omega arith)) in
    let last : f n ≡ g n = h n (omega arith) in
    λ i. option_or (front i) (cond (last i) (Some n) None)

any-same : (f g : ℕ → Bool) (n : ℕ) → ((k : ℕ) → k < n → f k ≡ g k) → any_below f n ≡ any_below g n
any-same f g zero h = refl
any-same f g (suc n) h =
    let front : any_below f n ≡ any_below g n = any-same f g n (λ k lt. h k (omega arith)) in
    let last : f n ≡ g n = h n (omega arith) in
    λ i. front i || last i

any-nothing : (n : ℕ) → any_below (λ k. false) n ≡ false
any-nothing zero = refl
any-nothing (suc n) = ap (λ (b : Bool). b || false) (any-nothing n)

and-true : (b : Bool) → (b && true) ≡ b
and-true true = refl
and-true false = refl

takes-if : (b : Bool) (n : ℕ) → takes_part (cond b (Own n) Gone) ≡ b
takes-if true n = refl
takes-if false n = refl

and-false : (b : Bool) → (b && false) ≡ false
and-false true = refl
and-false false = refl

module _ (phases : List Phase) (orders : List Order) (list : IsOrderList orders) (deals : List Deal) (i : ℕ) (lt : i < length orders) (some : 0 < quantity_at orders i) (none : (order_at orders i).target ≡ None) where
  spent-none : (k : ℕ) → chain_before_phase phases orders deals k i ≡ 0
  unfolding chain_before_phase
  spent-none k = ap (sum_by (traded_before_phase phases orders deals k)) (chain-none orders list i none)

  takes-placed : (k : ℕ) → first_place phases k ≤ place_at orders i → takes_part (role_in_phase_at phases orders deals k i) ≡ is_placed_order orders i
  takes-placed k le =
      let earlier = roles_in_phase orders (first_place phases k) (left_after_phases phases orders deals k) (chain_before_phase phases orders deals k) i in
      let left : quantity_at orders i - chain_before_phase phases orders deals k i ≡ quantity_at orders i = let e = spent-none k in omega arith in
      let tests : (target_takes_part earlier (order_at orders i).target && nat_lt 0 (quantity_at orders i - chain_before_phase phases orders deals k i)) ≡ true
      = and_from _ _ (ap (target_takes_part earlier) none) (lt-ltb 0 (quantity_at orders i - chain_before_phase phases orders deals k i) (omega arith)) in
      ap takes_part (is-own orders (first_place phases k) (left_after_phases phases orders deals k) (chain_before_phase phases orders deals k) i le)
      ∙ takes-if (is_placed_order orders i && (target_takes_part earlier (order_at orders i).target && nat_lt 0 (quantity_at orders i - chain_before_phase phases orders deals k i))) (quantity_at orders i - chain_before_phase phases orders deals k i)
      ∙ ap (λ (b : Bool). is_placed_order orders i && b) tests ∙ and-true (is_placed_order orders i)

  own-is : (k : ℕ) → is_own phases orders deals k i ≡ (is_in_phase phases k (place_at orders i) && is_placed_order orders i)
  own-is k = elim (cases_Bool (is_in_phase phases k (place_at orders i))) [
    | inr out ↦ ap (λ (b : Bool). b && takes_part (role_in_phase_at phases orders deals k i)) out ∙ sym (ap (λ (b : Bool). b && is_placed_order orders i) out)
    | inl in_phase ↦
        let from = leb-true _ _ (and_parts (nat_le (first_place phases k) (place_at orders i)) (nat_le (place_at orders i) (end_place phases k)) in_phase).0 in
        ap (λ (b : Bool). is_in_phase phases k (place_at orders i) && b) (takes-placed k from)
  ]

  any-own : any_below (λ k. is_call (phase_kind phases k) && is_own phases orders deals k i) (length phases) ≡ (is_placed_order orders i && is_in_any_call phases (place_at orders i))
  any-own = elim (cases_Bool (is_placed_order orders i)) [
    | inl t ↦ any-same _ _ (length phases) (λ k lt. ap (λ (b : Bool). is_call (phase_kind phases k) && b) (own-is k ∙ ap (λ (b : Bool). is_in_phase phases k (place_at orders i) && b) t ∙ and-true (is_in_phase phases k (place_at orders i))))
        ∙ sym (ap (λ (b : Bool). b && is_in_any_call phases (place_at orders i)) t)
    | inr f ↦ any-same _ (λ k. false) (length phases) (λ k lt. ap (λ (b : Bool). is_call (phase_kind phases k) && b) (own-is k ∙ ap (λ (b : Bool). is_in_phase phases k (place_at orders i) && b) f ∙ and-false (is_in_phase phases k (place_at orders i))) ∙ and-false (is_call (phase_kind phases k)))
        ∙ any-nothing (length phases) ∙ sym (ap (λ (b : Bool). b && is_in_any_call phases (place_at orders i)) f)
  ]

module _ (phases : List Phase) (orders : List Order) (list : IsOrderList orders) (numbers : OrdersInRange orders) (deals : List Deal) where
  rests-true : (l : Life) → l ≡ Rests → may_rest l ≡ true
  rests-true l e = ap may_rest e

  instant-same : (i : ℕ) → i < length orders → is_instant_order phases (order_at orders i) ≡ is_instant_in_call phases orders deals i
  instant-same i lt = elim (cases_Bool (may_rest (order_at orders i).life)) [
    | inl t ↦ ap (λ (b : Bool). not b && (is_placed_order orders i && is_in_any_call phases (place_at orders i))) t ∙ sym (ap (λ (b : Bool). not b && any_below (λ k. is_call (phase_kind phases k) && is_own phases orders deals k i) (length phases)) t)
    | inr f ↦
        let none : (order_at orders i).target ≡ None = elim (cases_Option (order_at orders i).target) [
          | inl e ↦ e
          | inr some ↦ absurd (both_ways _ f (rests-true _ (list.resting i some.0 lt some.1)))
        ] in
        let is = numbers i order_past_end lt in
        ap (λ (b : Bool). not (may_rest (order_at orders i).life) && b) (sym (any-own phases orders list deals i lt is.sized.some none))
  ]

  pub instant-is : first_instant_of_day phases orders ≡ instant_finding phases orders deals
  unfolding instant_finding
  instant-is = ap (option_map (λ (i : ℕ). finding_at_record property.InstantOrder which.Orders (place_at orders i) None None))
      (with-same (λ i. is_instant_order phases (order_at orders i)) (is_instant_in_call phases orders deals) (length orders) instant-same)
