-- A day, phase by phase: what the code keeps is what the phases so far traded and left.
use Rattle.std.proofs.Common.{◌≡◌, ◌<◌, ◌≤◌, ◌+◌, ◌-◌, ◌^◌, ℕ, suc, List, [], length, Bool, true, false, refl, ap, sym, ◌∙◌, arith, inl, inr, subst, All, cond, add-one}
use Rattle.std.specs.Prelude.{replicate}
use Rattle.std.proofs.lemmas.Bool.{cases_lt, cases_eq}
use Rattle.std.proofs.lemmas.List.{get_or_past, get_or-replicate, length-replicate}
use Rattle.std.proofs.lemmas.Grind.{same_number_lists}
use Rattle.audit_base.specs.declared.orders.Order.{Order}
use Rattle.audit_base.specs.declared.orders.Deal.{Deal}
use Rattle.audit_base.specs.Orders.{order_at, quantity_at, order_past_end, IsOrderList}
use Rattle.audit_base.specs.Deals.{traded, NamesOrders, IsDealList, DealsInRange, number_at}
use Rattle.audit_base.specs.Histories.{Regular}
use Rattle.audit_base.specs.Rules.{Conforms}
use Rattle.audit_base.specs.CallOffences.{is_cancelled}
use Rattle.audit_base.specs.Continuous.{size_in_ledger, entered_in_ledger, chain_traded_in_ledger, traded_before, rests_after, left_after, size_of_order}
use Rattle.audit_base.proofs.OrderLemmas.{place-rises}
use Rattle.session_audit.specs.declared.phases.Phase.{Phase}
use Rattle.session_audit.specs.declared.phases.PhaseKind.{PhaseKind}
use Rattle.session_audit.specs.declared.phases.PhaseKind.TheVariants as kind
use Rattle.session_audit.specs.Phases.{rule_of, phase_kind, first_place, end_place, ArePhases, phase_deals}
use Rattle.session_audit.specs.PhaseOrders.{list_below, role_in_phase_at, left_after_phase, traded_before_phase, chain_before_phase, left_after_phases, phase_list_at}
use Rattle.session_audit.specs.Days.{PhaseConforms}
use Rattle.session_audit.specs.Numbers.{AreBoundedTotals}
use Rattle.session_audit.specs.Leaving.{EndsBy}
use Rattle.session_audit.specs.Progress.{IsDaySoFar, AddsPhase}
use Rattle.session_audit.proofs.ListBelowLemmas.{length-list_below, list_below-at}
use Rattle.session_audit.proofs.InPhaseLemmas.{in-phase-le}
use Rattle.session_audit.proofs.PhaseListLemmas.{quantity-le, phase-at, phase-length, phase-is_list, phase-is_regular, upto-inside}
use Rattle.session_audit.proofs.PhaseDealLemmas.{deals-list, causes-upto}
use Rattle.session_audit.proofs.PartLemmas.{earlier-le, earlier-more, in-le, traded-small}

-- What a phase leaves is at most the quantity, and nothing past the end.

size-le : (b : Bool) (q n : ℕ) → cond b (q - n) 0 ≤ q
size-le true q n = omega arith
size-le false q n = omega arith

left-most : (b : Bool) (m q : ℕ) → m ≤ q → cond b m 0 ≤ q
left-most true m q le = le
left-most false m q le = omega arith

left-rest : (b : Bool) (m q : ℕ) → m ≤ q → cond b 0 m ≤ q
left-rest true m q le = omega arith
left-rest false m q le = le

pub size-most : (orders : List Order) (deals : List Deal) (i : ℕ) → size_of_order orders deals i ≤ quantity_at orders i
unfolding size_in_ledger
size-most orders deals i = size-le (entered_in_ledger orders (traded_before orders deals) i) (quantity_at orders i) (chain_traded_in_ledger orders (traded_before orders deals) i)

left-after-most : (orders : List Order) (deals : List Deal) (last i : ℕ) → left_after orders deals last i ≤ quantity_at orders i
left-after-most orders deals last i = let m = size-most orders deals i in omega arith

pub left-le : (k : PhaseKind) (orders : List Order) (deals : List Deal) (last i : ℕ) → left_after_phase k orders deals last i ≤ quantity_at orders i
left-le kind.Uniform orders deals last i = left-rest (is_cancelled orders i) (quantity_at orders i - traded deals i) (quantity_at orders i) (omega arith)
left-le kind.Maximum orders deals last i = left-rest (is_cancelled orders i) (quantity_at orders i - traded deals i) (quantity_at orders i) (omega arith)
left-le kind.Continuous orders deals last i = left-most (rests_after orders deals last i) (left_after orders deals last i) (quantity_at orders i) (left-after-most orders deals last i)

past-quantity : (orders : List Order) (i : ℕ) → length orders ≤ i → quantity_at orders i ≡ 0
past-quantity orders i le = ap (λ (o : Order). o.quantity) (get_or_past orders i order_past_end le)

pub left-past : (k : PhaseKind) (orders : List Order) (deals : List Deal) (last i : ℕ) → length orders ≤ i → left_after_phase k orders deals last i ≡ 0
left-past k orders deals last i le = let m = left-le k orders deals last i in let q = past-quantity orders i le in omega arith

replicated : (f : ℕ → ℕ) (n : ℕ) → ((i : ℕ) → f i ≡ 0) → replicate n 0 ≡ list_below f n
replicated f n none =
    let long : length {A = ℕ} (replicate {A = ℕ} n 0) ≡ n = length-replicate {A = ℕ} n 0 in
    same_number_lists (replicate {A = ℕ} n 0) (list_below f n) (long ∙ sym (length-list_below f n)) (λ i lt.
    get_or-replicate {A = ℕ} n i 0 0 (omega arith) ∙ sym (list_below-at f n i 0 (omega arith) ∙ none i))

pub no-phases : (phases : List Phase) (orders : List Order) (deals : List Deal) (traded rest : List ℕ) → traded ≡ replicate (length orders) 0 → rest ≡ [] → IsDaySoFar phases orders deals 0 traded rest
unfolding traded_before_phase left_after_phases
no-phases phases orders deals traded rest traded_is rest_is = record {
  conformed = λ j lt. absurd (omega arith);
  traded_is = traded_is ∙ replicated (traded_before_phase phases orders deals 0) (length orders) (λ i. refl);
  left_is = λ i. ap (λ (ns : List ℕ). number_at ns i) rest_is;
  most = λ i. let e : number_at rest i ≡ 0 = ap (λ (ns : List ℕ). number_at ns i) rest_is in omega arith;
}

module _ (phases : List Phase) (are : ArePhases phases) (orders : List Order) (list : IsOrderList orders) (deals : List Deal) (named : All (NamesOrders orders) deals) (k : ℕ) (inside : k < length phases) where
  abbrev pub here : List Order
  here = phase_list_at phases orders deals k

  abbrev pub dealt_here : List Deal
  dealt_here = phase_deals phases orders deals k

  module _ (traded_list rest : List ℕ) (so_far : IsDaySoFar phases orders deals k traded_list rest) where
    -- the numbers of a phase are small
    pub small-so_far : DealsInRange deals → length deals < 2 ^ 32 → AreBoundedTotals traded_list
    small-so_far ranges few i = elim (cases_lt i (length orders)) [
      | inl lt ↦
          let e : number_at traded_list i ≡ traded_before_phase phases orders deals k i = ap (λ (ns : List ℕ). number_at ns i) so_far.traded_is ∙ list_below-at (traded_before_phase phases orders deals k) (length orders) i 0 lt in
          let m = earlier-le phases are orders deals k i (omega arith) in
          let s = traded-small deals ranges few i in
          omega arith
      | inr le ↦
          let long : length traded_list ≡ length orders = ap length so_far.traded_is ∙ length-list_below (traded_before_phase phases orders deals k) (length orders) in
          let e : number_at traded_list i ≡ 0 = get_or_past traded_list i 0 (omega arith) in
          omega arith
    ]

    pub long-so_far : length traded_list ≡ length orders
    long-so_far = ap length so_far.traded_is ∙ length-list_below (traded_before_phase phases orders deals k) (length orders)

    rest-le : (i : ℕ) → left_after_phases phases orders deals k i ≤ quantity_at orders i
    rest-le i = let m = so_far.most i in let e = so_far.left_is i in omega arith

    -- no order of the phase has more than its written quantity
    quantity-at-most : (i : ℕ) → i < length here → quantity_at here i ≤ quantity_at orders i
    quantity-at-most i lt =
        let at = ap (λ (o : Order). o.quantity) (phase-at orders (end_place phases k) (first_place phases k) (left_after_phases phases orders deals k) (chain_before_phase phases orders deals k) i lt) in
        let m = in-phase-le orders (first_place phases k) (left_after_phases phases orders deals k) (chain_before_phase phases orders deals k) i (rest-le i) in
        let q = quantity-le (end_place phases k) (order_at orders i) (role_in_phase_at phases orders deals k i) m in
        omega arith

    rest-is-left : left_after_phases phases orders deals (suc k) ≡ left_after_phase (phase_kind phases k) here dealt_here (end_place phases k)
    unfolding left_after_phases
    rest-is-left = refl

    pub one-phase : (the_kind : PhaseKind) (last : ℕ) (after left : List ℕ) → the_kind ≡ phase_kind phases k → last ≡ end_place phases k
        → AddsPhase the_kind here dealt_here last traded_list after left → IsDaySoFar phases orders deals (k + 1) after left
    one-phase the_kind last after left kind_is last_is passed =
        let f = left_after_phase the_kind here dealt_here last in
        let same : f ≡ left_after_phases phases orders deals (suc k) = (λ j. left_after_phase (kind_is j) here dealt_here (last_is j)) ∙ sym rest-is-left in
        let at : (i : ℕ) → number_at left i ≡ f i = λ i. elim (cases_lt i (length here)) [
          | inl lt ↦ ap (λ (ns : List ℕ). number_at ns i) passed.left_is ∙ list_below-at f (length here) i 0 lt
          | inr le ↦
              let long : length left ≡ length here = ap length passed.left_is ∙ length-list_below f (length here) in
              get_or_past left i 0 (omega arith) ∙ sym (left-past the_kind here dealt_here last i le)
        ] in
        record {
          conformed = λ j lt. elim (cases_eq j k) [
            | inl e ↦ subst (PhaseConforms phases orders deals) (sym e) (subst (λ (t : PhaseKind). Conforms (rule_of t) here dealt_here) kind_is passed.conforms)
            | inr ne ↦ so_far.conformed j (omega (arith, ne))
          ];
          traded_is =
              let long : length after ≡ length orders = passed.count ∙ long-so_far in
              same_number_lists after (list_below (traded_before_phase phases orders deals (k + 1)) (length orders)) (long ∙ sym (length-list_below (traded_before_phase phases orders deals (k + 1)) (length orders))) (λ i lt.
              let before_is : number_at traded_list i ≡ traded_before_phase phases orders deals k i = ap (λ (ns : List ℕ). number_at ns i) so_far.traded_is ∙ list_below-at (traded_before_phase phases orders deals k) (length orders) i 0 (omega arith) in
              let added = passed.added i (let l = long-so_far in omega arith) in
              let more = earlier-more phases are orders deals k i in
              let next : traded_before_phase phases orders deals (k + 1) i ≡ traded_before_phase phases orders deals (suc k) i = ap (λ (n : ℕ). traded_before_phase phases orders deals n i) (add-one k) in
              let goal : number_at after i ≡ traded_before_phase phases orders deals (k + 1) i = omega arith in
              goal ∙ sym (list_below-at (traded_before_phase phases orders deals (k + 1)) (length orders) i 0 (omega arith)));
          left_is = λ i. at i ∙ ap (λ (g : ℕ → ℕ). g i) same ∙ ap (λ (n : ℕ). left_after_phases phases orders deals n i) (sym (add-one k));
          most = λ i.
              let e = at i in
              let m = left-le the_kind here dealt_here last i in
              elim (cases_lt i (length here)) [
                | inl lt ↦ let q = quantity-at-most i lt in omega arith
                | inr le ↦ let q = past-quantity here i le in omega arith
              ];
        }

-- what the code has at hand for a phase
pub record IsReady (orders here : List Order) (dealt : List Deal) (last : ℕ) : Type 0 where
  pub order_list : IsOrderList here
  pub regular : Regular here
  pub deal_list : IsDealList here dealt
  pub ends : EndsBy here dealt last
  pub more : (i : ℕ) → traded dealt i ≤ 2 ^ 72
  pub few : length here ≤ length orders

pub ready : (phases : List Phase) (are : ArePhases phases) (orders : List Order) (list : IsOrderList orders) (regular : Regular orders) (deals : List Deal) → IsDealList orders deals → DealsInRange deals → (k : ℕ) → k < length phases
    → (here : List Order) (dealt : List Deal) (last : ℕ) → here ≡ phase_list_at phases orders deals k → dealt ≡ phase_deals phases orders deals k → last ≡ end_place phases k → IsReady orders here dealt last
ready phases are orders list regular deals dl ranges k inside here dealt last here_is dealt_is last_is =
    let at : IsReady orders (phase_list_at phases orders deals k) (phase_deals phases orders deals k) (end_place phases k) = record {
      order_list = phase-is_list orders list (end_place phases k) (first_place phases k) (left_after_phases phases orders deals k) (chain_before_phase phases orders deals k);
      regular = phase-is_regular orders list (end_place phases k) (first_place phases k) (left_after_phases phases orders deals k) (chain_before_phase phases orders deals k) regular;
      deal_list = deals-list phases orders (place-rises orders list) deals k dl;
      ends = causes-upto phases orders (place-rises orders list) deals k dl.named;
      more = λ i. let m = in-le phases are orders deals k i inside in let s = traded-small deals ranges dl.fits_indices i in omega arith;
      few = let e = phase-length orders (end_place phases k) (first_place phases k) (left_after_phases phases orders deals k) (chain_before_phase phases orders deals k) in let m = upto-inside orders (end_place phases k) in omega arith;
    } in
    subst (λ h. IsReady orders h dealt last) (sym here_is) (subst (λ d. IsReady orders (phase_list_at phases orders deals k) d last) (sym dealt_is) (subst (IsReady orders (phase_list_at phases orders deals k) (phase_deals phases orders deals k)) (sym last_is) at))

-- the same as `one-phase`, of lists that are those of the phase
pub phase-passed : (phases : List Phase) (are : ArePhases phases) (orders : List Order) (list : IsOrderList orders) (deals : List Deal) → All (NamesOrders orders) deals → (k : ℕ) → k < length phases
    → (traded_list rest : List ℕ) → IsDaySoFar phases orders deals k traded_list rest → (here : List Order) (dealt : List Deal) (the_kind : PhaseKind) (last : ℕ) (after left : List ℕ)
    → here ≡ phase_list_at phases orders deals k → dealt ≡ phase_deals phases orders deals k → the_kind ≡ phase_kind phases k → last ≡ end_place phases k
    → AddsPhase the_kind here dealt last traded_list after left → IsDaySoFar phases orders deals (k + 1) after left
phase-passed phases are orders list deals named k inside traded_list rest so_far here dealt the_kind last after left here_is dealt_is kind_is last_is passed =
    one-phase phases are orders list deals named k inside traded_list rest so_far the_kind last after left kind_is last_is
    (subst (λ h. AddsPhase the_kind h (phase_deals phases orders deals k) last traded_list after left) here_is (subst (λ d. AddsPhase the_kind here d last traded_list after left) dealt_is passed))
