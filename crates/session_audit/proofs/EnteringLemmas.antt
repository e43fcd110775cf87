-- What the orders of a phase bring, read off the numbers that are kept of them.
use Rattle.std.proofs.Common.{◌≡◌, ◌<◌, ◌≤◌, ◌+◌, ℕ, suc, List, [], ◌∷◌, ◌++◌, length, get_or, Bool, ◌-◌, cond, Option, Some, None, refl, ap, sym, ◌∙◌, arith, inl, inr, sum_by}
use Rattle.std.specs.Prelude.{nat_lt, ◌&&◌}
use Rattle.std.proofs.lemmas.List.{get_or_past}
use Rattle.std.proofs.lemmas.Bool.{cases_lt, cond-true, cond-false, lt-ltb, le-ltb}
use Rattle.audit_base.specs.declared.orders.Order.{Order}
use Rattle.audit_base.specs.declared.orders.Deal.{Deal}
use Rattle.audit_base.specs.Orders.{order_at, place_at, quantity_at, order_past_end, IsOrderList}
use Rattle.audit_base.specs.Histories.{Regular}
use Rattle.audit_base.specs.Continuous.{chain, chain_within, is_placed_order}
use Rattle.audit_base.specs.Deals.{number_at}
use Rattle.audit_base.proofs.ContinuousLemmas.{target-below}
use Rattle.audit_base.proofs.SumLemmas.{sum_by-same}
use Rattle.session_audit.specs.declared.phases.Phase.{Phase}
use Rattle.session_audit.specs.Phases.{first_place, end_place}
use Rattle.session_audit.specs.PhaseOrders.{RoleInPhase, target_takes_part, roles_in_phase, role_in_phase, role_in_phase_at, phase_order, order_count_through, phase_list, traded_before_phase, chain_before_phase, left_after_phases, phase_list_at}
use Rattle.session_audit.specs.Numbers.{WithinQuantities, total_of_chain, AreChainTotals}
use Rattle.session_audit.specs.Leaving.{size_if_target_rests}
use Rattle.session_audit.specs.Entering.{amount_in_phase, role_of_amount, target_has_amount, amount_by_earlier, amounts_below, phase_list_by_amounts}
use Rattle.session_audit.specs.Progress.{IsDaySoFar}
use Rattle.session_audit.proofs.ListBelowLemmas.{length-list_below, list_below-at, list_below-more, list_below-same}
use Rattle.session_audit.proofs.InPhaseLemmas.{carried-amount, own-amount, is-carried, is-own, in-phase-le, amount-takes, by-amount, target-stays}
use Rattle.session_audit.proofs.EndedLemmas.{chain-ended}

-- the order that an index gives, and its target
pub target-is : (orders : List Order) (i t : ℕ) (o : Order) (target : Option ℕ) → o ≡ order_at orders i → target ≡ o.target → target ≡ Some t → (order_at orders i).target ≡ Some t
target-is orders i t o target is same e = sym (same ∙ ap (λ (p : Order). p.target) is) ∙ e

module _ (orders : List Order) (list : IsOrderList orders) (first : ℕ) (rest spent : List ℕ) where
  abbrev what : ℕ → RoleInPhase
  what = role_in_phase orders first (number_at rest) (number_at spent)

  abbrev earlier : ℕ → List RoleInPhase
  earlier = roles_in_phase orders first (number_at rest) (number_at spent)

  abbrev amount : ℕ → ℕ
  amount i = amount_in_phase (what i)

  -- a target has a number where it isn't gone
  target-has : (i : ℕ) (target : Option ℕ) (so_far : List ℕ) → i < length orders → (order_at orders i).target ≡ target → so_far ≡ amounts_below orders first rest spent i
      → target_has_amount target so_far ≡ target_takes_part (earlier i) target
  target-has i None so_far lt e are = refl
  target-has i (Some t) so_far lt e are =
      let less = target-below orders list i lt t e in
      let at : number_at so_far t ≡ amount t = ap (λ (ns : List ℕ). number_at ns t) are ∙ list_below-at amount i t 0 less in
      ap (nat_lt 0) at ∙ amount-takes orders first (number_at rest) (number_at spent) t ∙ sym (target-stays orders first (number_at rest) (number_at spent) i t less)

  amount-by : (i : ℕ) (so_far : List ℕ) → i < length orders → so_far ≡ amounts_below orders first rest spent i
      → amount_by_earlier orders first rest spent so_far i ≡ amount i
  amount-by i so_far lt are =
      let target = (order_at orders i).target in
      let own : ℕ = size_if_target_rests (order_at orders i) (target_has_amount target so_far) (number_at spent i) in
      elim (cases_lt (place_at orders i) first) [
        | inl before ↦ cond-true (nat_lt (place_at orders i) first) (number_at rest i) own (lt-ltb _ _ before)
            ∙ sym (ap amount_in_phase (is-carried orders first (number_at rest) (number_at spent) i before) ∙ carried-amount (number_at rest i))
        | inr from ↦ cond-false (nat_lt (place_at orders i) first) (number_at rest i) own (le-ltb _ _ from)
            ∙ ap (λ (b : Bool). cond (is_placed_order orders i && b) (quantity_at orders i - number_at spent i) 0) (target-has i target so_far lt refl are)
            ∙ own-amount (is_placed_order orders i) (target_takes_part (earlier i) target) (quantity_at orders i - number_at spent i)
            ∙ sym (ap amount_in_phase (is-own orders first (number_at rest) (number_at spent) i from))
      ]

  pub amounts-more : (i : ℕ) (so_far : List ℕ) → i < length orders → so_far ≡ amounts_below orders first rest spent i
      → so_far ++ amount_by_earlier orders first rest spent so_far i ∷ [] ≡ amounts_below orders first rest spent (i + 1)
  amounts-more i so_far lt are = (λ j. are j ++ amount-by i so_far lt are j ∷ []) ∙ sym (list_below-more amount i)

  pub amounts-most : (n : ℕ) (so_far : List ℕ) → so_far ≡ amounts_below orders first rest spent n → WithinQuantities orders rest → WithinQuantities orders so_far
  amounts-most n so_far are most i =
      let long : length so_far ≡ n = ap length are ∙ length-list_below amount n in
      elim (cases_lt i n) [
        | inl lt ↦
            let at : number_at so_far i ≡ amount i = ap (λ (ns : List ℕ). number_at ns i) are ∙ list_below-at amount n i 0 lt in
            let m = in-phase-le orders first (number_at rest) (number_at spent) i (most i) in
            omega arith
        | inr past ↦ let none : number_at so_far i ≡ 0 = get_or_past so_far i 0 (omega arith) in omega arith
      ]

-- the chain of an index past the end is empty
chain-past : (orders : List Order) (f : ℕ → ℕ) (i : ℕ) → length orders ≤ i → sum_by f (chain orders i) ≡ 0
unfolding chain
chain-past orders f i le = ap (λ (o : Order). sum_by f (chain_within (suc i) orders o.target)) (get_or_past orders i order_past_end le)

module _ (phases : List Phase) (orders : List Order) (list : IsOrderList orders) (regular : Regular orders) (deals : List Deal) (k : ℕ) (traded rest : List ℕ) (so_far : IsDaySoFar phases orders deals k traded rest) where
  chain-earlier : (i : ℕ) → i < length orders → total_of_chain orders traded i ≡ chain_before_phase phases orders deals k i
  unfolding chain_before_phase
  chain-earlier i lt = sum_by-same (number_at traded) (traded_before_phase phases orders deals k) (chain orders i) (λ n x below.
      let u = get_or (chain orders i) n x in
      let inside = (chain-ended orders list regular i lt n x below).inside in
      ap (λ (ns : List ℕ). number_at ns u) so_far.traded_is ∙ list_below-at (traded_before_phase phases orders deals k) (length orders) u 0 inside)

  past-earlier : (i : ℕ) → length orders ≤ i → chain_before_phase phases orders deals k i ≡ 0
  unfolding chain_before_phase
  past-earlier i le = chain-past orders (traded_before_phase phases orders deals k) i le

  spent-is : (spent : List ℕ) → AreChainTotals orders traded (length orders) spent → (i : ℕ) → number_at spent i ≡ chain_before_phase phases orders deals k i
  spent-is spent are i = elim (cases_lt i (length orders)) [
    | inl lt ↦ ap (λ (ns : List ℕ). number_at ns i) are.are ∙ list_below-at (total_of_chain orders traded) (length orders) i 0 lt ∙ chain-earlier i lt
    | inr le ↦
        let long : length spent ≡ length orders = ap length are.are ∙ length-list_below (total_of_chain orders traded) (length orders) in
        get_or_past spent i 0 (omega arith) ∙ sym (past-earlier i le)
  ]

  -- the list that is made from the numbers is that of the phase
  pub list-is : (spent amounts_list : List ℕ) → AreChainTotals orders traded (length orders) spent
      → amounts_list ≡ amounts_below orders (first_place phases k) rest spent (order_count_through orders (end_place phases k))
      → phase_list_by_amounts orders (first_place phases k) (end_place phases k) amounts_list (length amounts_list) ≡ phase_list_at phases orders deals k
  unfolding phase_list
  list-is spent amounts_list totals are =
      let first : ℕ = first_place phases k in
      let last : ℕ = end_place phases k in
      let n : ℕ = order_count_through orders last in
      let rests : number_at rest ≡ left_after_phases phases orders deals k = λ j i. so_far.left_is i j in
      let chains : number_at spent ≡ chain_before_phase phases orders deals k = λ j i. spent-is spent totals i j in
      let there : ℕ → RoleInPhase = role_in_phase_at phases orders deals k in
      let amount : ℕ → ℕ = λ i. amount_in_phase (role_in_phase orders first (number_at rest) (number_at spent) i) in
      let long : length amounts_list ≡ n = ap length are ∙ length-list_below amount n in
      ap (phase_list_by_amounts orders first last amounts_list) long
      ∙ list_below-same (λ i. phase_order last (order_at orders i) (role_of_amount first (number_at amounts_list i) (order_at orders i))) (λ i. phase_order last (order_at orders i) (there i)) n
      (λ i lt.
      let at : number_at amounts_list i ≡ amount_in_phase (there i) = ap (λ (ns : List ℕ). number_at ns i) are ∙ list_below-at amount n i 0 lt
      ∙ (λ j. amount_in_phase (role_in_phase orders first (rests j) (chains j) i)) in
      ap (λ (a : ℕ). phase_order last (order_at orders i) (role_of_amount first a (order_at orders i))) at
      ∙ ap (phase_order last (order_at orders i)) (by-amount orders first (left_after_phases phases orders deals k) (chain_before_phase phases orders deals k) i))
