-- Day uniqueness, phase by phase.
use Rattle.std.proofs.Common.{◌≡◌, ◌<◌, ◌≤◌, ◌+◌, ◌-◌, ℕ, zero, suc, List, length, get_or, Bool, true, false, refl, ap, sym, ◌∙◌, arith, subst, All, sum_by, cond}
use Rattle.std.specs.Prelude.{nat_lt, ◌&&◌, ◌||◌, ◌==◌, max}
use Rattle.std.proofs.lemmas.Bool.{and_from, eq-eqb, ne_eqb, cond-true, cond-false}
use Rattle.std.proofs.lemmas.List.Elements.{All-filter}
use Rattle.audit_base.specs.declared.orders.Order.{Order}
use Rattle.audit_base.specs.declared.orders.Deal.{Deal}
use Rattle.audit_base.specs.Sums.{sum_below}
use Rattle.audit_base.specs.Orders.{place_at, quantity_at, IsOrderList}
use Rattle.audit_base.specs.Deals.{traded, pair, volume, NamesOrders, DealsInRange, DealInRange}
use Rattle.audit_base.specs.Calls.{Matching, Fair}
use Rattle.audit_base.specs.CallOffences.{is_cancelled}
use Rattle.audit_base.specs.Continuous.{cause, chain, traded_before, rests_before_in_ledger, left_before_in_ledger}
use Rattle.audit_base.specs.ContinuousRules.{ConformsContinuous}
use Rattle.audit_base.specs.Histories.{Regular}
use Rattle.audit_base.specs.Rules.{Conforms}
use Rattle.audit_base.proofs.DealLemmas.{keeps-names}
use Rattle.audit_base.proofs.SumLemmas.{sum_by-below, sum_by-same, sum_by-none, below-same, below-single, below-none}
use Rattle.call_laws.specs.Laws.{FairVolumeFixesQuantities}
use Rattle.continuous_laws.specs.Laws.{ContinuousUniqueness}
use Rattle.session_audit.specs.declared.phases.Phase.{Phase}
use Rattle.session_audit.specs.declared.phases.PhaseKind.{PhaseKind}
use Rattle.session_audit.specs.declared.phases.PhaseKind.TheVariants as kind
use Rattle.session_audit.specs.Phases.{rule_of, phase_kind, first_place, end_place, is_in_phase, phase_deals}
use Rattle.session_audit.specs.PhaseOrders.{phase_list, left_after_phase, traded_in_phase, traded_before_phase, chain_before_phase, left_after_phases, phase_list_at}
use Rattle.session_audit.specs.Days.{ConformsDay}
use Rattle.session_audit.specs.Laws.{DayUniqueness, DayPairs}
use Rattle.session_audit.proofs.PhaseListLemmas.{phase-is_list, phase-is_regular}

-- the deals of a phase have numbers in range where all deals have
pub in-range : (phases : List Phase) (orders : List Order) (deals : List Deal) (k : ℕ) → DealsInRange deals → DealsInRange (phase_deals phases orders deals k)
unfolding phase_deals
in-range phases orders deals k ranges = All-filter (λ d. is_in_phase phases k (cause orders d)) DealInRange deals ranges

-- What an order trades with a sum over its pairs. A weight of a deal that its bid and its ask
-- determine gives equal sums where the pairs are equal.
module _ (n : ℕ) (w : ℕ → ℕ → Bool) where
  abbrev cell : Deal → ℕ → ℕ → ℕ
  cell d b a = cond (w b a) (cond ((d.bid == b) && (d.ask == a)) d.quantity 0) 0

  one-deal : (d : Deal) → d.bid < n → d.ask < n → sum_below (λ b. sum_below (cell d b) n) n ≡ cond (w d.bid d.ask) d.quantity 0
  one-deal d hb ha =
      below-single (λ b. sum_below (cell d b) n) n d.bid hb (λ b lt ne. below-none (cell d b) n (λ a la. none-bid b a (λ e. ne (sym e)) (w b a)))
      ∙ below-single (cell d d.bid) n d.ask ha (λ a lt ne. none-ask a (λ e. ne (sym e)) (w d.bid a))
      ∙ ap (λ (q : ℕ). cond (w d.bid d.ask) q 0) (cond-true ((d.bid == d.bid) && (d.ask == d.ask)) d.quantity 0 (and_from _ _ (eq-eqb d.bid d.bid refl) (eq-eqb d.ask d.ask refl)))
    where
      cond-none : (t : Bool) (z : ℕ) → cond t z z ≡ z
      cond-none true z = refl
      cond-none false z = refl

      and-left : (x y : Bool) → x ≡ false → (x && y) ≡ false
      and-left x y e = ap (λ (t : Bool). t && y) e

      and-right : (x y : Bool) → y ≡ false → (x && y) ≡ false
      and-right true y e = e
      and-right false y e = refl

      none-bid : (b a : ℕ) → (d.bid ≡ b → ⊥) → (t : Bool) → cond t (cond ((d.bid == b) && (d.ask == a)) d.quantity 0) 0 ≡ 0
      none-bid b a ne t = ap (λ (q : ℕ). cond t q 0) (cond-false ((d.bid == b) && (d.ask == a)) d.quantity 0 (and-left (d.bid == b) (d.ask == a) (ne_eqb d.bid b ne))) ∙ cond-none t 0

      none-ask : (a : ℕ) → (d.ask ≡ a → ⊥) → (t : Bool) → cond t (cond ((d.bid == d.bid) && (d.ask == a)) d.quantity 0) 0 ≡ 0
      none-ask a ne t = ap (λ (q : ℕ). cond t q 0) (cond-false ((d.bid == d.bid) && (d.ask == a)) d.quantity 0 (and-right (d.bid == d.bid) (d.ask == a) (ne_eqb d.ask a ne))) ∙ cond-none t 0

  cond-sum : (t : Bool) (f : Deal → ℕ) (deals : List Deal) → cond t (sum_by f deals) 0 ≡ sum_by (λ d. cond t (f d) 0) deals
  cond-sum true f deals = refl
  cond-sum false f deals = sym (sum_by-none (λ d. 0) deals (λ k d lt. refl))

  by-pairs : (deals : List Deal) → All (λ d. (d.bid < n) × (d.ask < n)) deals → sum_by (λ d. cond (w d.bid d.ask) d.quantity 0) deals ≡ sum_below (λ b. sum_below (λ a. cond (w b a) (pair deals b a) 0) n) n
  by-pairs deals inside =
      sym (sum_by-same (λ d. sum_below (λ b. sum_below (cell d b) n) n) (λ d. cond (w d.bid d.ask) d.quantity 0) deals (λ k x lt. one-deal (get_or deals k x) (inside k x lt).0 (inside k x lt).1))
      ∙ sum_by-below (λ d b. sum_below (cell d b) n) deals n
      ∙ below-same _ _ n (λ b lb. sum_by-below (λ d a. cell d b a) deals n ∙ below-same _ _ n (λ a la. sym (cond-sum (w b a) (λ d. cond ((d.bid == b) && (d.ask == a)) d.quantity 0) deals)))

  pub same-weight : (ds es : List Deal) → All (λ d. (d.bid < n) × (d.ask < n)) ds → All (λ d. (d.bid < n) × (d.ask < n)) es → ((b a : ℕ) → pair ds b a ≡ pair es b a)
      → sum_by (λ d. cond (w d.bid d.ask) d.quantity 0) ds ≡ sum_by (λ d. cond (w d.bid d.ask) d.quantity 0) es
  same-weight ds es in_ds in_es same = by-pairs ds in_ds ∙ below-same _ _ n (λ b lb. below-same _ _ n (λ a la. ap (λ (q : ℕ). cond (w b a) q 0) (same b a))) ∙ sym (by-pairs es in_es)

-- What a phase fixes: what each order trades, and what it trades before each place.
pub record Same (orders : List Order) (ds es : List Deal) : Type 0 where
  pub totals : traded ds ≡ traded es
  pub past : traded_before orders ds ≡ traded_before orders es

inside-of : (orders : List Order) (deals : List Deal) → All (NamesOrders orders) deals → All (λ d. (d.bid < length orders) × (d.ask < length orders)) deals
inside-of orders deals named k x lt = let is = named k x lt in (is.bid_inside, is.ask_inside)

pub pairs-fix : (orders : List Order) (ds es : List Deal) → All (NamesOrders orders) ds → All (NamesOrders orders) es → ((b a : ℕ) → pair ds b a ≡ pair es b a) → Same orders ds es
unfolding traded_before
pairs-fix orders ds es named_ds named_es same = record {
  totals = λ j i. same-weight (length orders) (λ b a. (b == i) || (a == i)) ds es (inside-of orders ds named_ds) (inside-of orders es named_es) same j;
  past = λ j p i. same-weight (length orders) (λ b a. ((b == i) || (a == i)) && nat_lt (max (place_at orders b) (place_at orders a)) p) ds es (inside-of orders ds named_ds) (inside-of orders es named_es) same j;
}

names-of-matching : (orders : List Order) (deals : List Deal) → Matching orders deals → All (NamesOrders orders) deals
names-of-matching orders deals m k x lt = keeps-names orders (get_or deals k x) (m.kept k x lt)

-- what a phase fixes: what each order trades, and what the phase leaves
pub record Fixed (k : PhaseKind) (orders : List Order) (ds es : List Deal) : Type 0 where
  pub totals : traded ds ≡ traded es
  pub left : (last : ℕ) → left_after_phase k orders ds last ≡ left_after_phase k orders es last

equal : (a b : ℕ) → a ≤ b → b ≤ a → a ≡ b
equal a b le ge = omega arith

module _ (fixes : FairVolumeFixesQuantities) (unique : ContinuousUniqueness) where
  call-fixed : (orders : List Order) (ds es : List Deal) → IsOrderList orders → Matching orders ds → Fair orders ds → Matching orders es → Fair orders es → volume ds ≡ volume es → traded ds ≡ traded es
  call-fixed orders ds es list md fd me fe same = λ j i. fixes orders ds es list md fd me fe same i j

  phase-fixed : (k : PhaseKind) (orders : List Order) (ds es : List Deal) → IsOrderList orders → Regular orders → DealsInRange ds → DealsInRange es → Conforms (rule_of k) orders ds → Conforms (rule_of k) orders es → Fixed k orders ds es
  phase-fixed kind.Uniform orders ds es list regular rd re c d =
      let same = equal (volume ds) (volume es) (d.greatest ds rd c.matching c.one_price) (c.greatest es re d.matching d.one_price) in
      let t : traded ds ≡ traded es = call-fixed orders ds es list c.matching c.fair d.matching d.fair same in
      record { totals = t; left = λ last j i. cond (is_cancelled orders i) 0 (quantity_at orders i - t j i) }
  phase-fixed kind.Maximum orders ds es list regular rd re c d =
      let same = equal (volume ds) (volume es) (d.greatest ds rd c.matching) (c.greatest es re d.matching) in
      let t : traded ds ≡ traded es = call-fixed orders ds es list c.matching c.fair d.matching d.fair same in
      record { totals = t; left = λ last j i. cond (is_cancelled orders i) 0 (quantity_at orders i - t j i) }
  phase-fixed kind.Continuous orders ds es list regular rd re c d =
      let f = pairs-fix orders ds es c.named d.named (λ b a. unique orders ds es list regular c d b a) in
      let p : traded_before orders ds ≡ traded_before orders es = f.past in
      record { totals = f.totals; left = λ last j i. cond (rests_before_in_ledger orders (p j) (suc last) i) (left_before_in_ledger orders (p j) (suc last) i) 0 }

  module _ (phases : List Phase) (orders : List Order) (ds es : List Deal) (list : IsOrderList orders) (regular : Regular orders) (rd : DealsInRange ds) (re : DealsInRange es) (c : ConformsDay phases orders ds) (d : ConformsDay phases orders es) where
    record Agree (k : ℕ) : Type 0 where
      rest : left_after_phases phases orders ds k ≡ left_after_phases phases orders es k
      earlier : traded_before_phase phases orders ds k ≡ traded_before_phase phases orders es k

    start : Agree 0
    unfolding left_after_phases traded_before_phase
    start = record { rest = λ j i. 0; earlier = λ j i. 0 }

    chains-same : (k : ℕ) → Agree k → chain_before_phase phases orders ds k ≡ chain_before_phase phases orders es k
    unfolding chain_before_phase
    chains-same k a = let e = a.earlier in λ j i. sum_by (e j) (chain orders i)

    lists-same : (k : ℕ) → Agree k → phase_list_at phases orders ds k ≡ phase_list_at phases orders es k
    lists-same k a = let r = a.rest in let s = chains-same k a in λ j. phase_list orders (first_place phases k) (end_place phases k) (r j) (s j)

    fixed-at : (k : ℕ) → k < length phases → Agree k → Fixed (phase_kind phases k) (phase_list_at phases orders ds k) (phase_deals phases orders ds k) (phase_deals phases orders es k)
    fixed-at k lt a =
        let here : List Order = phase_list_at phases orders ds k in
        phase-fixed (phase_kind phases k) here (phase_deals phases orders ds k) (phase_deals phases orders es k)
        (phase-is_list orders list (end_place phases k) (first_place phases k) (left_after_phases phases orders ds k) (chain_before_phase phases orders ds k))
        (phase-is_regular orders list (end_place phases k) (first_place phases k) (left_after_phases phases orders ds k) (chain_before_phase phases orders ds k) regular)
        (in-range phases orders ds k rd) (in-range phases orders es k re) (c.each k lt)
        (subst (λ (h : List Order). Conforms (rule_of (phase_kind phases k)) h (phase_deals phases orders es k)) (sym (lists-same k a)) (d.each k lt))

    next : (k : ℕ) → k < length phases → Agree k → Agree (suc k)
    unfolding left_after_phases traded_before_phase
    next k lt a =
        let f = fixed-at k lt a in
        let h = lists-same k a in
        let e = a.earlier in
        let t = f.totals in
        record {
          rest = f.left (end_place phases k) ∙ (λ j. left_after_phase (phase_kind phases k) (h j) (phase_deals phases orders es k) (end_place phases k));
          earlier = λ j i. e j i + t j i;
        }

    agree : (k : ℕ) → k ≤ length phases → Agree k
    agree zero le = start
    agree (suc k) le = next k (omega arith) (agree k (omega arith))

    pub totals-same : (k : ℕ) → k < length phases → (i : ℕ) → traded_in_phase phases orders ds k i ≡ traded_in_phase phases orders es k i
    totals-same k lt i = let f = fixed-at k lt (agree k (omega arith)) in let t = f.totals in λ j. t j i

    pub pairs-same : (k : ℕ) → k < length phases → phase_kind phases k ≡ kind.Continuous → (bid ask : ℕ) → pair (phase_deals phases orders ds k) bid ask ≡ pair (phase_deals phases orders es k) bid ask
    pairs-same k lt is bid ask =
        let a = agree k (omega arith) in
        let here : List Order = phase_list_at phases orders ds k in
        let first : ConformsContinuous here (phase_deals phases orders ds k) = subst (λ (t : PhaseKind). Conforms (rule_of t) here (phase_deals phases orders ds k)) is (c.each k lt) in
        let second : ConformsContinuous here (phase_deals phases orders es k) = subst (λ (t : PhaseKind). Conforms (rule_of t) here (phase_deals phases orders es k)) is
        (subst (λ (h : List Order). Conforms (rule_of (phase_kind phases k)) h (phase_deals phases orders es k)) (sym (lists-same k a)) (d.each k lt)) in
        unique here (phase_deals phases orders ds k) (phase_deals phases orders es k)
        (phase-is_list orders list (end_place phases k) (first_place phases k) (left_after_phases phases orders ds k) (chain_before_phase phases orders ds k))
        (phase-is_regular orders list (end_place phases k) (first_place phases k) (left_after_phases phases orders ds k) (chain_before_phase phases orders ds k) regular)
        first second bid ask

  pub day-unique : DayUniqueness
  day-unique phases orders ds es list regular rd re c d k lt i = totals-same phases orders ds es list regular rd re c d k lt i

  pub day-pairs : DayPairs
  day-pairs phases orders ds es list regular rd re c d k lt is bid ask = pairs-same phases orders ds es list regular rd re c d k lt is bid ask
