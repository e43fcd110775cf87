-- Where the rule of continuous trading holds at all places before i and there is no fault at i, it holds at i; and after the last
-- place nothing can fail.
use Rattle.std.proofs.Common.{◌≡◌, ◌≢◌, ◌≤◌, ◌<◌, ◌+◌, ◌-◌, ℕ, zero, suc, List, [], ◌∷◌, length, take, get_or, Bool, true, false, cond, Option, Some, None, refl, sym, ◌∙◌, arith, inl, inr, sum_by, All, subst, add-one}
use Rattle.std.specs.Prelude.{◌&&◌, ◌==◌, nat_lt, nat_le}
use Rattle.std.proofs.lemmas.Bool.{cases_Bool, cases_eq, cases_lt, cases_order, and_parts, and_from, and_right, or_cases, or_left, or_right, ltb-true, ltb-false, leb-true, le-leb, le-ltb, lt-ltb, eqb-true, eq-eqb, ne_eqb, not-false, not_from_true, both_ways, cond-true, cond-false, cond_both, false_from_ne_true}
use Rattle.std.proofs.lemmas.List.{take_all}
use Rattle.std.proofs.lemmas.List.Sums.{sum_by_more, sum_by_more_le, sum_by-take-le}
use Rattle.audit_base.specs.declared.terms.Side.TheVariants.{Buy, Sell}
use Rattle.audit_base.specs.declared.orders.Order.{Order}
use Rattle.audit_base.specs.declared.orders.Deal.{Deal}
use Rattle.audit_base.specs.declared.findings.Finding.{Finding}
use Rattle.audit_base.specs.declared.findings.Property.TheVariants as property
use Rattle.audit_base.specs.Least.{least_answer, any_below, first_answer}
use Rattle.audit_base.specs.Orders.{order_at, place_at, side_at, limit_at, same_side, may_rest}
use Rattle.audit_base.specs.Priority.{better, Better}
use Rattle.audit_base.specs.Deals.{deal_past_end, deal_at, names_order, KeepsLimits, NamesOrders, DealInRange}
use Rattle.audit_base.specs.CallOffences.{keeps_limits}
use Rattle.audit_base.specs.Continuous.{cause, resting_order, incoming_order, traded_before, traded_at, entered_in_ledger, size_in_ledger, size_where_entered, left_before_in_ledger, rests_before_in_ledger, active_after_in_ledger, uncancelled_before}
use Rattle.audit_base.specs.ContinuousRules.{Conservation, Spread, ConformsAt, ConformsContinuous}
use Rattle.audit_base.specs.ContinuousOffences.{traded_upto, continuous_inactive_finding, continuous_limit_finding, size_finding, conservation_finding, waits_ahead, resting_priority_finding, active_after_on_side, active_orders_meet, spread_finding, finding_at_place, IsContinuousOffence}
use Rattle.audit_base.proofs.DealLemmas.{test-limits, limits-test}
use Rattle.audit_base.proofs.OrderLemmas.{is-same_side, same_side-is}
use Rattle.audit_base.proofs.SumLemmas.{sum_by-add, sum_by-same, sum_by-none}
use Rattle.audit_base.proofs.LeastLemmas.{none_some, option_or-parts, none-below, least-none, none-any, any-found}
use Rattle.audit_base.proofs.OffenceLemmas.{All-deals, only-none, none-only, option_or-none_both}

-- what is traded up to a place is what is traded before it and at it
lt-split : (b : Bool) (c p q : ℕ) → cond (b && nat_lt c (suc p)) q 0 ≡ cond (b && nat_lt c p) q 0 + cond (b && (c == p)) q 0
lt-split false c p q = omega arith
lt-split true c p q = elim (cases_order c p) [
  | inl e ↦ let x : nat_lt c (suc p) ≡ true = lt-ltb c (suc p) (omega arith) in let y : nat_lt c p ≡ false = le-ltb c p (omega arith) in let z : (c == p) ≡ true = eq-eqb c p e in rw (x, y, z) (omega arith)
  | inr ne ↦ elim ne [
    | inl less ↦ let x : nat_lt c (suc p) ≡ true = lt-ltb c (suc p) (omega arith) in let y : nat_lt c p ≡ true = lt-ltb c p less in let z : (c == p) ≡ false = ne_eqb c p (λ e. omega arith) in rw (x, y, z) (omega arith)
    | inr more ↦ let x : nat_lt c (suc p) ≡ false = le-ltb c (suc p) (omega arith) in let y : nat_lt c p ≡ false = le-ltb c p (omega arith) in let z : (c == p) ≡ false = ne_eqb c p (λ e. omega arith) in rw (x, y, z) (omega arith)
  ]
]

pub traded-more : (orders : List Order) (deals : List Deal) (p k : ℕ) → traded_before orders deals (suc p) k ≡ traded_before orders deals p k + traded_at orders deals p k
unfolding traded_before traded_at
traded-more orders deals p k =
    let f = λ (d : Deal). cond (names_order k d && nat_lt (cause orders d) p) d.quantity 0 in
    let g = λ (d : Deal). cond (names_order k d && (cause orders d == p)) d.quantity 0 in
    let h = λ (d : Deal). cond (names_order k d && nat_lt (cause orders d) (suc p)) d.quantity 0 in
    let same : sum_by h deals ≡ sum_by (λ d. f d + g d) deals = sum_by-same h (λ d. f d + g d) deals (λ n d lt. let x = get_or deals n d in lt-split (names_order k x) (cause orders x) p x.quantity) in
    same ∙ sum_by-add f g deals

-- no deal has a cause below 0
pub traded-first : (orders : List Order) (deals : List Deal) (k : ℕ) → traded_before orders deals 0 k ≡ 0
unfolding traded_before
traded-first orders deals k = sum_by-none (λ d. cond (names_order k d && nat_lt (cause orders d) 0) d.quantity 0) deals (λ n d lt.
    let x = get_or deals n d in cond-false (names_order k x && nat_lt (cause orders x) 0) x.quantity 0 (and_right (names_order k x) (nat_lt (cause orders x) 0) (le-ltb (cause orders x) 0 (omega arith))))

-- the part of one deal at a cause
abbrev part_at : List Order → ℕ → ℕ → Deal → ℕ
part_at orders i k d = cond (names_order k d && (cause orders d == i)) d.quantity 0

traded_at-take : (orders : List Order) (deals : List Deal) (i k n : ℕ) → n < length deals
    → traded_at orders (take (n + 1) deals) i k ≡ traded_at orders (take n deals) i k + part_at orders i k (deal_at deals n)
unfolding traded_at
traded_at-take orders deals i k n lt = sum_by_more (part_at orders i k) deals n deal_past_end lt

traded_at-nothing : (orders : List Order) (i k : ℕ) → traded_at orders [] i k ≡ 0
unfolding traded_at
traded_at-nothing orders i k = refl

at-take-le : (orders : List Order) (deals : List Deal) (i k x : ℕ) → traded_at orders (take (k + 1) deals) i x ≤ traded_at orders deals i x
unfolding traded_at
at-take-le orders deals i k x = sum_by-take-le (part_at orders i x) deals (k + 1)

-- what no fault of a deal of cause i says
pub record IsFaultlessAt (orders : List Order) (deals : List Deal) (i k : ℕ) : Type 0 where
  pub rested : rests_before_in_ledger orders (traded_before orders deals) i (resting_order orders (deal_at deals k)) ≡ true
  pub arrived : entered_in_ledger orders (traded_before orders deals) (incoming_order orders (deal_at deals k)) ≡ true
  pub limits : keeps_limits orders (deal_at deals k) ≡ true
  pub bid_within : traded_upto orders deals i k (deal_at deals k).bid ≤ size_in_ledger orders (traded_before orders deals) (deal_at deals k).bid
  pub ask_within : traded_upto orders deals i k (deal_at deals k).ask ≤ size_in_ledger orders (traded_before orders deals) (deal_at deals k).ask

fault-none_here : (orders : List Order) (deals : List Deal) (i k : ℕ)
    → first_answer (continuous_inactive_finding orders deals i k ∷ continuous_limit_finding orders deals i k
    ∷ size_finding property.BuyQuantity orders deals i k (deal_at deals k).bid ∷ size_finding property.SellQuantity orders deals i k (deal_at deals k).ask ∷ []) ≡ None
    → IsFaultlessAt orders deals i k
unfolding continuous_inactive_finding continuous_limit_finding size_finding
fault-none_here orders deals i k e =
    let a = option_or-parts _ _ e in
    let b = option_or-parts _ _ a.1 in
    let c = option_or-parts _ _ b.1 in
    let d = option_or-parts _ _ c.1 in
    let first = option_or-parts _ _ a.0 in
    let second = option_or-parts _ _ first.1 in
    record {
      rested = not-false _ (only-none _ _ first.0);
      arrived = not-false _ (only-none _ _ second.0);
      limits = not-false _ (only-none _ _ b.0);
      bid_within = ltb-false _ _ (only-none _ _ c.0);
      ask_within = ltb-false _ _ (only-none _ _ d.0);
    }

pub conservation-none : (orders : List Order) (deals : List Deal) (i k : ℕ) → conservation_finding orders deals i k ≡ None → cause orders (deal_at deals k) ≡ i → IsFaultlessAt orders deals i k
conservation-none orders deals i k e at = fault-none_here orders deals i k (sym (cond-true (cause orders (deal_at deals k) == i) _ None (eq-eqb _ _ at)) ∙ e)

module _ (orders : List Order) (deals : List Deal) (i : ℕ) (calm : (j : ℕ) → j < i → ConformsAt orders deals j) where
  -- before place i no order has traded more than its Size
  within_before : (x : ℕ) → x < length orders → traded_before orders deals i x ≤ size_in_ledger orders (traded_before orders deals) x
  within_before x lt = elim (cases_eq i 0) [
    | inl e ↦ let none : traded_before orders deals i x ≡ 0 = rw e (traded-first orders deals x) in omega arith
    | inr ne ↦
        let last = (calm (i - 1) (omega (arith, ne))).conservation.within x lt in
        let same : suc (i - 1) ≡ i = omega (arith, ne) in
        subst (λ p. traded_before orders deals p x ≤ size_in_ledger orders (traded_before orders deals) x) same last
  ]

  module _ (each : (k : ℕ) → k < length deals → cause orders (deal_at deals k) ≡ i → IsFaultlessAt orders deals i k) where
    within_first : (x : ℕ) → x < length orders → (n : ℕ) → n ≤ length deals
        → traded_before orders deals i x + traded_at orders (take n deals) i x ≤ size_in_ledger orders (traded_before orders deals) x
    within_first x lt zero le = omega (arith, within_before x lt, traded_at-nothing orders i x)
    within_first x lt (suc n) le =
        let d = deal_at deals n in
        let rest = within_first x lt n (omega arith) in
        let step = traded_at-take orders deals i x n (omega arith) in
        let whole : traded_before orders deals i x + traded_at orders (take (n + 1) deals) i x ≤ size_in_ledger orders (traded_before orders deals) x =
        elim (cases_Bool (names_order x d && (cause orders d == i))) [
          | inr away ↦ let none : part_at orders i x d ≡ 0 = cond-false _ d.quantity 0 away in omega arith
          | inl here ↦
              let parts = and_parts (names_order x d) (cause orders d == i) here in
              let f = each n (omega arith) (eqb-true _ _ parts.1) in
              elim (or_cases (d.bid == x) (d.ask == x) parts.0) [
                | inl b ↦ let e : d.bid ≡ x = eqb-true d.bid x b in subst (λ y. traded_upto orders deals i n y ≤ size_in_ledger orders (traded_before orders deals) y) e f.bid_within
                | inr a ↦ let e : d.ask ≡ x = eqb-true d.ask x a in subst (λ y. traded_upto orders deals i n y ≤ size_in_ledger orders (traded_before orders deals) y) e f.ask_within
              ]
        ] in
        subst (λ m. traded_before orders deals i x + traded_at orders (take m deals) i x ≤ size_in_ledger orders (traded_before orders deals) x) (add-one n) whole

    conserved : Conservation orders deals i
    conserved = record {
      limits = All-deals (λ d. cause orders d ≡ i → KeepsLimits orders d) deals (λ k lt at.
          let f = each k lt at in
          let d = deal_at deals k in
          test-limits orders d f.limits);
      resting = All-deals (λ d. cause orders d ≡ i → rests_before_in_ledger orders (traded_before orders deals) i (resting_order orders d) ≡ true) deals (λ k lt at. (each k lt at).rested);
      within = λ x lt.
          let all : traded_before orders deals i x + traded_at orders deals i x ≤ size_in_ledger orders (traded_before orders deals) x =
          subst (λ ds. traded_before orders deals i x + traded_at orders ds i x ≤ size_in_ledger orders (traded_before orders deals) x) (take_all (length deals) deals (omega arith))
          (within_first x lt (length deals) (omega arith)) in
          omega (arith, traded-more orders deals i x, all);
    }

  none_over : (d : Deal) → ((cause orders d == i) && any_below (waits_ahead orders deals i (resting_order orders d)) (length orders)) ≡ false → cause orders d ≡ i
      → (x : ℕ) → x < length orders → rests_before_in_ledger orders (traded_before orders deals) i x ≡ true → Better orders x (resting_order orders d) → left_before_in_ledger orders (traded_before orders deals) (suc i) x ≡ 0
  none_over d none at x lt rest b =
      let quiet : any_below (waits_ahead orders deals i (resting_order orders d)) (length orders) ≡ false = sym (rw (eq-eqb _ _ at) refl) ∙ none in
      elim (cases_lt 0 (left_before_in_ledger orders (traded_before orders deals) (suc i) x)) [
        | inr zero' ↦ omega arith
        | inl some ↦ absurd (both_ways _ (none-any (waits_ahead orders deals i (resting_order orders d)) (length orders) quiet x lt)
            (and_from _ _ (and_from _ _ rest (lt-ltb _ _ some)) b))
      ]

  ranked-none : (k : ℕ) → resting_priority_finding orders deals i k ≡ None → ((cause orders (deal_at deals k) == i) && any_below (waits_ahead orders deals i (resting_order orders (deal_at deals k))) (length orders)) ≡ false
  unfolding resting_priority_finding
  ranked-none k e = only-none _ _ e

  spread-none : spread_finding orders deals i ≡ None → Spread orders deals i
  unfolding spread_finding active_orders_meet
  spread-none e b a hb ha buys sells active_b active_a =
      let none = only-none _ _ e in
      let row = none-any (λ b. any_below (λ a. active_after_on_side orders deals i Buy b && active_after_on_side orders deals i Sell a && nat_le (limit_at orders a) (limit_at orders b)) (length orders)) (length orders) none b hb in
      let cell = none-any (λ a. active_after_on_side orders deals i Buy b && active_after_on_side orders deals i Sell a && nat_le (limit_at orders a) (limit_at orders b)) (length orders) row a ha in
      let on_b : active_after_on_side orders deals i Buy b ≡ true = and_from _ _ (is-same_side Buy _ (sym buys)) active_b in
      let on_a : active_after_on_side orders deals i Sell a ≡ true = and_from _ _ (is-same_side Sell _ (sym sells)) active_a in
      elim (cases_lt (limit_at orders b) (limit_at orders a)) [
        | inl lt ↦ lt
        | inr le ↦ absurd (both_ways _ cell (and_from _ _ (and_from _ _ on_b on_a) (le-leb _ _ le)))
      ]

  -- the rule holds before i, and there is no fault at i: it holds at i
  pub no_fault-conforms : finding_at_place orders deals i ≡ None → ConformsAt orders deals i
  no_fault-conforms e =
      let a = option_or-parts _ _ e in
      let b = option_or-parts _ _ a.1 in
      let c = option_or-parts _ _ b.1 in
      record {
        conservation = conserved (λ k lt at. conservation-none orders deals i k (none-below (conservation_finding orders deals i) (length deals) a.0 k lt) at);
        priority = All-deals (λ d. cause orders d ≡ i → (x : ℕ) → x < length orders → rests_before_in_ledger orders (traded_before orders deals) i x ≡ true
            → Better orders x (resting_order orders d) → left_before_in_ledger orders (traded_before orders deals) (suc i) x ≡ 0) deals (λ k lt. none_over (deal_at deals k) (ranked-none k (none-below (resting_priority_finding orders deals i) (length deals) b.0 k lt)));
        spread = spread-none c.0;
      }

-- no fault below n: the rule holds below n
pub no_faults-conform : (orders : List Order) (deals : List Deal) (n : ℕ) → least_answer (finding_at_place orders deals) n ≡ None → (i : ℕ) → i < n → ConformsAt orders deals i
no_faults-conform orders deals zero e i lt = absurd (omega arith)
no_faults-conform orders deals (suc n) e i lt =
    let parts = option_or-parts (least_answer (finding_at_place orders deals) n) (finding_at_place orders deals n) e in
    let earlier = no_faults-conform orders deals n parts.0 in
    elim (cases_eq i n) [
      | inl same ↦ subst (λ j. ConformsAt orders deals j) (sym same) (no_fault-conforms orders deals n earlier parts.1)
      | inr ne ↦ earlier i (omega (arith, ne))
    ]

-- A place that is not that of an order changes nothing.

uncancelled-before : (c : Option ℕ) (p : ℕ) → uncancelled_before c (suc p) ≡ true → uncancelled_before c p ≡ true
uncancelled-before None p e = refl
uncancelled-before (Some c) p e = let le = leb-true (suc p) c e in le-leb p c (omega arith)

none-traded_at : (orders : List Order) (deals : List Deal) (p k : ℕ) → All (λ d. cause orders d ≢ p) deals → traded_at orders deals p k ≡ 0
unfolding traded_at
none-traded_at orders deals p k none = sum_by-none (part_at orders p k) deals (λ n e lt.
    let d = get_or deals n e in cond-false (names_order k d && (cause orders d == p)) d.quantity 0 (and_right (names_order k d) (cause orders d == p) (ne_eqb (cause orders d) p (none n e lt))))

module _ (orders : List Order) (deals : List Deal) (i : ℕ) (no_order : (x : ℕ) → x < length orders → place_at orders x ≢ suc i) (no_deal : All (λ d. cause orders d ≢ suc i) deals) where
  same-past : (x : ℕ) → traded_before orders deals (suc (suc i)) x ≡ traded_before orders deals (suc i) x
  same-past x = let none = none-traded_at orders deals (suc i) x no_deal in let more = traded-more orders deals (suc i) x in omega arith

  rests-earlier : (x : ℕ) → x < length orders → rests_before_in_ledger orders (traded_before orders deals) (suc (suc i)) x ≡ true → rests_before_in_ledger orders (traded_before orders deals) (suc i) x ≡ true
  unfolding rests_before_in_ledger
  rests-earlier x lt t =
      let o = order_at orders x in
      let whole = size_where_entered (entered_in_ledger orders (traded_before orders deals) x) orders (traded_before orders deals) x in
      let parts = and_parts (may_rest o.life && nat_lt o.place (suc (suc i))) (uncancelled_before o.cancelled (suc (suc i)) && nat_lt (traded_before orders deals (suc (suc i)) x) whole) t in
      let first = and_parts (may_rest o.life) (nat_lt o.place (suc (suc i))) parts.0 in
      let second = and_parts (uncancelled_before o.cancelled (suc (suc i))) (nat_lt (traded_before orders deals (suc (suc i)) x) whole) parts.1 in
      let place_lt = ltb-true o.place (suc (suc i)) first.1 in
      let away = no_order x lt in
      let earlier : o.place < suc i = elim (cases_lt o.place (suc i)) [ inl below ↦ below | inr above ↦ absurd (away (omega arith)) ] in
      let traded_lt = ltb-true (traded_before orders deals (suc (suc i)) x) whole second.1 in
      let fewer : traded_before orders deals (suc i) x < whole = omega (arith, same-past x, traded_lt) in
      and_from _ _ (and_from _ _ first.0 (lt-ltb o.place (suc i) earlier)) (and_from _ _ (uncancelled-before o.cancelled (suc i) second.0) (lt-ltb _ _ fewer))

  active-earlier : (x : ℕ) → x < length orders → active_after_in_ledger orders (traded_before orders deals) (suc i) x ≡ true → active_after_in_ledger orders (traded_before orders deals) i x ≡ true
  unfolding active_after_in_ledger
  active-earlier x lt t =
      let past = traded_before orders deals in
      let o = order_at orders x in
      elim (or_cases (rests_before_in_ledger orders past (suc (suc i)) x) ((o.place == suc i) && uncancelled_before o.cancelled (suc (suc i)) && nat_lt 0 (left_before_in_ledger orders past (suc (suc i)) x)) t) [
        | inl rest ↦ or_left _ _ (rests-earlier x lt rest)
        | inr here ↦
            let outer = and_parts ((o.place == suc i) && uncancelled_before o.cancelled (suc (suc i))) (nat_lt 0 (left_before_in_ledger orders past (suc (suc i)) x)) here in
            let inner = and_parts (o.place == suc i) (uncancelled_before o.cancelled (suc (suc i))) outer.0 in
            absurd (no_order x lt (eqb-true _ _ inner.0))
      ]

  pub quiet-conforms : ConformsAt orders deals i → ConformsAt orders deals (suc i)
  quiet-conforms c = record {
    conservation = record {
      limits = λ k d lt at. absurd (no_deal k d lt at);
      resting = λ k d lt at. absurd (no_deal k d lt at);
      within = λ x lt. let w = c.conservation.within x lt in omega (arith, same-past x);
    };
    priority = λ k d lt at. absurd (no_deal k d lt at);
    spread = λ b a hb ha buys sells active_b active_a. c.spread b a hb ha buys sells (active-earlier b hb active_b) (active-earlier a ha active_a);
  }

-- all places are at most the last one
abbrev pub IsLast : List Order → ℕ → Type 0
IsLast orders last = (x : ℕ) → x < length orders → place_at orders x ≤ last

pub late-conforms : (orders : List Order) (deals : List Deal) (last : ℕ) → All (NamesOrders orders) deals → IsLast orders last → ((i : ℕ) → i < suc last → ConformsAt orders deals i)
    → (more : ℕ) → ConformsAt orders deals (last + more)
late-conforms orders deals last named top h zero = h (last + 0) (omega arith)
late-conforms orders deals last named top h (suc more) =
    let before = late-conforms orders deals last named top h more in
    let no_order : (x : ℕ) → x < length orders → place_at orders x ≢ suc (last + more) = λ x lt e. let le = top x lt in omega arith in
    let no_deal : All (λ d. cause orders d ≢ suc (last + more)) deals = λ k d lt e.
    let n = named k d lt in let b = top _ n.bid_inside in let a = top _ n.ask_inside in omega arith in
    let same : suc (last + more) ≡ last + suc more = omega arith in
    subst (λ i. ConformsAt orders deals i) same (quiet-conforms orders deals (last + more) no_order no_deal before)

-- no fault up to the last place: the rule holds
pub no_faults-conforms : (orders : List Order) (deals : List Deal) (last : ℕ) → All (NamesOrders orders) deals → IsLast orders last → least_answer (finding_at_place orders deals) (suc last) ≡ None
    → ConformsContinuous orders deals
no_faults-conforms orders deals last named top e =
    let first = no_faults-conform orders deals (suc last) e in
    record {
      named = named;
      each = λ i. elim (cases_lt i (suc last)) [
        | inl lt ↦ first i lt
        | inr le ↦
            let same : last + (i - last) ≡ i = omega arith in
            subst (λ j. ConformsAt orders deals j) same (late-conforms orders deals last named top first (i - last))
      ];
    }

-- The other way round: where the rule holds at i, there is no fault at i.

names_incoming : (orders : List Order) (d : Deal) → names_order (incoming_order orders d) d ≡ true
names_incoming orders d = cond_both (nat_lt (place_at orders d.bid) (place_at orders d.ask)) d.ask d.bid (λ i. names_order i d ≡ true)
    (λ t. or_right (d.bid == d.ask) (d.ask == d.ask) (eq-eqb d.ask d.ask refl)) (λ t. or_left (d.bid == d.bid) (d.ask == d.bid) (eq-eqb d.bid d.bid refl))

traded-least : (orders : List Order) (deals : List Deal) (i k x : ℕ) → k < length deals → cause orders (deal_at deals k) ≡ i → names_order x (deal_at deals k) ≡ true
    → (deal_at deals k).quantity ≤ traded_before orders deals (suc i) x
unfolding traded_before
traded-least orders deals i k x lt at named =
    let d = deal_at deals k in
    let f = λ (d : Deal). cond (names_order x d && nat_lt (cause orders d) (suc i)) d.quantity 0 in
    let whole : f d ≡ d.quantity = cond-true (names_order x d && nat_lt (cause orders d) (suc i)) d.quantity 0 (and_from _ _ named (lt-ltb (cause orders d) (suc i) (omega arith))) in
    omega (arith, sum_by_more_le f deals k deal_past_end lt, whole)

upto-most : (orders : List Order) (deals : List Deal) (i k x : ℕ) → traded_upto orders deals i k x ≤ traded_before orders deals (suc i) x
upto-most orders deals i k x =
    let part : traded_at orders (take (k + 1) deals) i x ≤ traded_at orders deals i x = at-take-le orders deals i k x in
    omega (arith, traded-more orders deals i x, part)

size-entered : (orders : List Order) (past : ℕ → ℕ → ℕ) (x : ℕ) → 0 < size_in_ledger orders past x → entered_in_ledger orders past x ≡ true
unfolding size_in_ledger
size-entered orders past x some = elim (cases_Bool (entered_in_ledger orders past x)) [
  | inl t ↦ t
  | inr f ↦ let none : size_where_entered (entered_in_ledger orders past x) orders past x ≡ 0 = rw f refl in absurd (omega arith)
]

module _ (orders : List Order) (deals : List Deal) (named : All (NamesOrders orders) deals) (ranges : All DealInRange deals) (i : ℕ) (c : ConformsAt orders deals i) where
  kept-here : (k : ℕ) → k < length deals → cause orders (deal_at deals k) ≡ i → IsFaultlessAt orders deals i k
  kept-here k lt at =
      let d = deal_at deals k in
      let past = traded_before orders deals in
      let n = named k deal_past_end lt in
      let some = (ranges k deal_past_end lt).sized.some in
      let limits = c.conservation.limits k deal_past_end lt at in
      let bid_in = c.conservation.within d.bid n.bid_inside in
      let ask_in = c.conservation.within d.ask n.ask_inside in
      let inside : incoming_order orders d < length orders = cond_both (nat_lt (place_at orders d.bid) (place_at orders d.ask)) d.ask d.bid (λ x. x < length orders) (λ t. n.ask_inside) (λ t. n.bid_inside) in
      let least = traded-least orders deals i k (incoming_order orders d) lt at (names_incoming orders d) in
      let most = c.conservation.within (incoming_order orders d) inside in
      record {
        rested = c.conservation.resting k deal_past_end lt at;
        arrived = size-entered orders past (incoming_order orders d) (omega arith);
        limits = limits-test orders d limits;
        bid_within = omega (arith, upto-most orders deals i k d.bid, bid_in);
        ask_within = omega (arith, upto-most orders deals i k d.ask, ask_in);
      }

  none-conservation : (k : ℕ) → k < length deals → conservation_finding orders deals i k ≡ None
  unfolding continuous_inactive_finding continuous_limit_finding size_finding
  none-conservation k lt = cond_both (cause orders (deal_at deals k) == i) _ None (λ o. o ≡ None)
      (λ t.
      let h = kept-here k lt (eqb-true _ _ t) in
      option_or-none_both _ _ (option_or-none_both _ _ (none-only _ _ (not_from_true _ h.rested)) (option_or-none_both _ _ (none-only _ _ (not_from_true _ h.arrived)) refl))
      (option_or-none_both _ _ (none-only _ _ (not_from_true _ h.limits))
      (option_or-none_both _ _ (none-only _ _ (le-ltb _ _ h.bid_within)) (option_or-none_both _ _ (none-only _ _ (le-ltb _ _ h.ask_within)) refl))))
      (λ t. refl)

  none-priority : (k : ℕ) → k < length deals → resting_priority_finding orders deals i k ≡ None
  unfolding resting_priority_finding
  none-priority k lt = none-only _ _ (false_from_ne_true _ (λ both.
      let d = deal_at deals k in
      let parts = and_parts (cause orders d == i) (any_below (waits_ahead orders deals i (resting_order orders d)) (length orders)) both in
      let found = any-found (waits_ahead orders deals i (resting_order orders d)) (length orders) parts.1 in
      let x = found.0 in
      let outer = and_parts (rests_before_in_ledger orders (traded_before orders deals) i x && nat_lt 0 (left_before_in_ledger orders (traded_before orders deals) (suc i) x)) (better (order_at orders x) (order_at orders (resting_order orders d))) found.2 in
      let inner = and_parts (rests_before_in_ledger orders (traded_before orders deals) i x) (nat_lt 0 (left_before_in_ledger orders (traded_before orders deals) (suc i) x)) outer.0 in
      let nothing = c.priority k deal_past_end lt (eqb-true _ _ parts.0) x found.1 inner.0 outer.1 in
      let some = ltb-true 0 (left_before_in_ledger orders (traded_before orders deals) (suc i) x) inner.1 in
      omega arith))

  none-spread : spread_finding orders deals i ≡ None
  unfolding spread_finding active_orders_meet
  none-spread = none-only _ _ (false_from_ne_true _ (λ meet.
      let row = any-found (λ b. any_below (λ a. active_after_on_side orders deals i Buy b && active_after_on_side orders deals i Sell a && nat_le (limit_at orders a) (limit_at orders b)) (length orders)) (length orders) meet in
      let b = row.0 in
      let cell = any-found (λ a. active_after_on_side orders deals i Buy b && active_after_on_side orders deals i Sell a && nat_le (limit_at orders a) (limit_at orders b)) (length orders) row.2 in
      let a = cell.0 in
      let outer = and_parts (active_after_on_side orders deals i Buy b && active_after_on_side orders deals i Sell a) (nat_le (limit_at orders a) (limit_at orders b)) cell.2 in
      let both = and_parts (active_after_on_side orders deals i Buy b) (active_after_on_side orders deals i Sell a) outer.0 in
      let on_b = and_parts (same_side Buy (side_at orders b)) (active_after_in_ledger orders (traded_before orders deals) i b) both.0 in
      let on_a = and_parts (same_side Sell (side_at orders a)) (active_after_in_ledger orders (traded_before orders deals) i a) both.1 in
      let apart = c.spread b a row.1 cell.1 (same_side-is Buy _ on_b.0) (same_side-is Sell _ on_a.0) on_b.1 on_a.1 in
      let meets = leb-true (limit_at orders a) (limit_at orders b) outer.1 in
      omega arith))

  pub conforms-no_fault : finding_at_place orders deals i ≡ None
  conforms-no_fault = option_or-none_both _ _ (least-none (conservation_finding orders deals i) (length deals) none-conservation)
      (option_or-none_both _ _ (least-none (resting_priority_finding orders deals i) (length deals) none-priority) (option_or-none_both _ _ none-spread refl))

-- so where First offence (continuous) is something, the rule fails
pub offence-fails : (orders : List Order) (deals : List Deal) (finding : Finding) → All (NamesOrders orders) deals → All DealInRange deals → IsContinuousOffence orders deals finding → ConformsContinuous orders deals → ⊥
offence-fails orders deals finding named ranges o c = none_some (finding_at_place orders deals o.place) finding (conforms-no_fault orders deals named ranges o.place (c.each o.place)) o.here
