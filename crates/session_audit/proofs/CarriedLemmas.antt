-- The orders that a call leaves don't meet.
use Rattle.std.proofs.Common.{◌≡◌, ◌<◌, ◌≤◌, ◌-◌, ℕ, zero, suc, List, length, Bool, true, false, Option, Some, None, refl, ap, sym, ◌∙◌, arith, inl, inr, subst, cond}
use Rattle.std.specs.Prelude.{nat_lt, is_some, is_none}
use Rattle.std.proofs.lemmas.Bool.{cases_lt, and_from, lt-ltb}
use Rattle.std.proofs.lemmas.List.Elements.{All-filter}
use Rattle.audit_base.specs.declared.terms.Side.{Side}
use Rattle.audit_base.specs.declared.terms.Side.TheVariants.{Buy, Sell}
use Rattle.audit_base.specs.declared.terms.VolumeRule.TheVariants as of_volume
use Rattle.audit_base.specs.declared.orders.Order.{Order}
use Rattle.audit_base.specs.declared.orders.Deal.{Deal}
use Rattle.audit_base.specs.Orders.{order_at, quantity_at, limit_at, side_at, is_uncancelled_on, order_past_end, IsOrderList, OrderInRange, OrdersInRange}
use Rattle.audit_base.specs.Deals.{traded, DealInRange, DealsInRange}
use Rattle.audit_base.specs.CallOffences.{is_cancelled, is_short}
use Rattle.audit_base.specs.Continuous.{cause}
use Rattle.audit_base.proofs.OrderLemmas.{is-same_side}
use Rattle.audit_base.proofs.OffenceLemmas.{get_or-default}
use Rattle.audit_base.specs.Rules.{Conforms}
use Rattle.call_laws.specs.Laws.{ShortOrdersDoNotMeet}
use Rattle.session_audit.specs.declared.phases.Phase.{Phase}
use Rattle.session_audit.specs.declared.phases.PhaseKind.{PhaseKind}
use Rattle.session_audit.specs.declared.phases.PhaseKind.TheVariants as kind
use Rattle.session_audit.specs.Phases.{rule_of, is_call, phase_kind, first_place, end_place, is_in_phase, phase_deals}
use Rattle.session_audit.specs.PhaseOrders.{RoleInPhase, role_in_phase_at, phase_order, left_after_call, left_after_phase, chain_before_phase, left_after_phases, phase_list_at}
use Rattle.session_audit.specs.Laws.{CarriedOrdersDoNotMeet}
use Rattle.session_audit.proofs.InPhaseLemmas.{in-phase-some, in-phase-le}
use Rattle.session_audit.proofs.PhaseListLemmas.{keeps, quantity-le, quantity-some, phase-at, phase-inside, phase-side}
use Rattle.session_audit.proofs.DayLemmas.{left-le, left-past}

module _ (phases : List Phase) (orders : List Order) (list : IsOrderList orders) (deals : List Deal) where
  abbrev here : ℕ → List Order
  here k = phase_list_at phases orders deals k

  abbrev what : ℕ → ℕ → RoleInPhase
  what k i = role_in_phase_at phases orders deals k i

  at : (k i : ℕ) → i < length (here k) → order_at (here k) i ≡ phase_order (end_place phases k) (order_at orders i) (what k i)
  at k i lt = phase-at orders (end_place phases k) (first_place phases k) (left_after_phases phases orders deals k) (chain_before_phase phases orders deals k) i lt

  inside : (k i : ℕ) → i < length (here k) → i < length orders
  inside k i lt = phase-inside orders (end_place phases k) (first_place phases k) (left_after_phases phases orders deals k) (chain_before_phase phases orders deals k) i lt

  module _ (numbers : OrdersInRange orders) where
    written : (i : ℕ) → i < length orders → OrderInRange (order_at orders i)
    written i lt = numbers i order_past_end lt

    -- no more is left of an order than its written quantity
    rest-le : (k i : ℕ) → left_after_phases phases orders deals k i ≤ quantity_at orders i
    unfolding left_after_phases
    rest-le zero i = omega arith
    rest-le (suc k) i = elim (cases_lt i (length (here k))) [
      | inl lt ↦
          let m = left-le (phase_kind phases k) (here k) (phase_deals phases orders deals k) (end_place phases k) i in
          let b = in-phase-le orders (first_place phases k) (left_after_phases phases orders deals k) (chain_before_phase phases orders deals k) i (rest-le k i) in
          let q = quantity-le (end_place phases k) (order_at orders i) (what k i) b in
          let e = ap (λ (o : Order). o.quantity) (at k i lt) in
          omega arith
      | inr past ↦ let z = left-past (phase_kind phases k) (here k) (phase_deals phases orders deals k) (end_place phases k) i past in omega arith
    ]

    in-range : (k i : ℕ) → i < length (here k) → OrderInRange (order_at (here k) i)
    in-range k i lt =
        let in_orders = inside k i lt in
        let is = written i in_orders in
        let b = in-phase-le orders (first_place phases k) (left_after_phases phases orders deals k) (chain_before_phase phases orders deals k) i (rest-le k i) in
        let most = quantity-le (end_place phases k) (order_at orders i) (what k i) b in
        let some = quantity-some (end_place phases k) (order_at orders i) (what k i) (in-phase-some orders (first_place phases k) (left_after_phases phases orders deals k) (chain_before_phase phases orders deals k) i) is.sized.some in
        let limit : (phase_order (end_place phases k) (order_at orders i) (what k i)).limit ≡ (order_at orders i).limit = keeps (λ o. o.limit) (λ o q c t. refl) (end_place phases k) (order_at orders i) (what k i) in
        let w = is.sized.most in
        let p = is.priced in
        let ordered : OrderInRange (phase_order (end_place phases k) (order_at orders i) (what k i)) = record { sized = record { some = some; most = omega arith }; priced = omega arith } in
        subst OrderInRange (sym (at k i lt)) ordered

    -- the order lists of phases have numbers in range
    pub phase-numbers : (k : ℕ) → OrdersInRange (here k)
    phase-numbers k i d lt = subst OrderInRange (sym (get_or-default (here k) i d order_past_end lt)) (in-range k i lt)

deals-numbers : (phases : List Phase) (orders : List Order) (deals : List Deal) (k : ℕ) → DealsInRange deals → DealsInRange (phase_deals phases orders deals k)
unfolding phase_deals
deals-numbers phases orders deals k ranges = All-filter (λ d. is_in_phase phases k (cause orders d)) DealInRange deals ranges

none-of : (o : Option ℕ) → is_some o ≡ false → is_none o ≡ true
none-of None e = refl
none-of (Some x) e = absurd (cc)

left-parts : (c : Bool) (m : ℕ) → 0 < cond c 0 m → (c ≡ false) × (0 < m)
left-parts true m h = absurd (omega arith)
left-parts false m h = (refl, h)

-- what a call leaves something of is short
short-of : (orders : List Order) (deals : List Deal) (side : Side) (i : ℕ) → side_at orders i ≡ side → 0 < left_after_call orders deals i → is_short orders deals side i ≡ true
short-of orders deals side i is some =
    let parts = left-parts (is_cancelled orders i) (quantity_at orders i - traded deals i) some in
    let less = parts.1 in
    and_from (is_uncancelled_on side (order_at orders i)) (nat_lt (traded deals i) (quantity_at orders i))
    (and_from _ _ (none-of (order_at orders i).cancelled parts.0) (is-same_side side (side_at orders i) (sym is))) (lt-ltb _ _ (omega arith))

call-left : (k : PhaseKind) (orders : List Order) (deals : List Deal) (last i : ℕ) → is_call k ≡ true → left_after_phase k orders deals last i ≡ left_after_call orders deals i
call-left kind.Uniform orders deals last i e = refl
call-left kind.Maximum orders deals last i e = refl
call-left kind.Continuous orders deals last i e = absurd (cc)

-- what a call leaves short doesn't meet, whichever rule of a call it has
call-apart : ShortOrdersDoNotMeet → (k : PhaseKind) (orders : List Order) (deals : List Deal) → is_call k ≡ true → OrdersInRange orders → DealsInRange deals → Conforms (rule_of k) orders deals
    → (bid ask : ℕ) → is_short orders deals Buy bid ≡ true → is_short orders deals Sell ask ≡ true → limit_at orders bid < limit_at orders ask
call-apart law kind.Uniform orders deals call numbers ranges conforms = law of_volume.Uniform orders deals numbers ranges conforms
call-apart law kind.Maximum orders deals call numbers ranges conforms = law of_volume.Maximum orders deals numbers ranges conforms
call-apart law kind.Continuous orders deals call numbers ranges conforms = absurd (cc)

pub carried-apart : ShortOrdersDoNotMeet → CarriedOrdersDoNotMeet
unfolding left_after_phases
carried-apart law phases orders deals k list numbers ranges call conforms bid ask buys sells some_bid some_ask =
    let here : List Order = phase_list_at phases orders deals k in
    let dealt : List Deal = phase_deals phases orders deals k in
    let last : ℕ = end_place phases k in
    let left_bid = call-left (phase_kind phases k) here dealt last bid call in
    let left_ask = call-left (phase_kind phases k) here dealt last ask call in
    let in_bid : bid < length here = elim (cases_lt bid (length here)) [ inl lt ↦ lt | inr past ↦ let z = left-past (phase_kind phases k) here dealt last bid past in absurd (omega arith) ] in
    let in_ask : ask < length here = elim (cases_lt ask (length here)) [ inl lt ↦ lt | inr past ↦ let z = left-past (phase_kind phases k) here dealt last ask past in absurd (omega arith) ] in
    let side_bid = phase-side orders last (first_place phases k) (left_after_phases phases orders deals k) (chain_before_phase phases orders deals k) bid in_bid in
    let side_ask = phase-side orders last (first_place phases k) (left_after_phases phases orders deals k) (chain_before_phase phases orders deals k) ask in_ask in
    let apart = call-apart law (phase_kind phases k) here dealt call (phase-numbers phases orders list deals numbers k) (deals-numbers phases orders deals k ranges) conforms bid ask
    (short-of here dealt Buy bid (side_bid ∙ buys) (omega arith)) (short-of here dealt Sell ask (side_ask ∙ sells) (omega arith)) in
    let limit_of : (i : ℕ) → i < length here → limit_at here i ≡ limit_at orders i = λ i lt.
    ap (λ (o : Order). o.limit) (at phases orders list deals k i lt) ∙ keeps (λ o. o.limit) (λ o q c t. refl) last (order_at orders i) (what phases orders list deals k i) in
    let b = limit_of bid in_bid in
    let a = limit_of ask in_ask in
    omega arith
