-- The offence at a place of continuous trading: where the rule fails, at the place of an order.
use Rattle.std.proofs.Common.{◌≡◌, ◌≢◌, ◌<◌, ◌∙◌, sym, ap, refl, ℕ, zero, suc, Bool, true, false, List, [], ◌∷◌, length, Option, None, Some, arith, inl, inr, All}
use Rattle.std.specs.Prelude.{◌&&◌, ◌||◌, ◌==◌, nat_lt, nat_le}
use Rattle.std.proofs.lemmas.Bool.{cases_Bool, cases_eq, cases_lt, and_parts, and_from, and_left, and_right, or_cases, or_left, or_right, or_from, ltb-true, leb-true, le-leb, lt-ltb, eqb-true, eq-eqb, ne_eqb, both_ways, cond-true, cond-false, false_from_ne_true}
use Rattle.audit_base.specs.declared.terms.Side.TheVariants.{Buy, Sell}
use Rattle.audit_base.specs.declared.orders.Order.{Order}
use Rattle.audit_base.specs.declared.orders.Deal.{Deal}
use Rattle.audit_base.specs.declared.findings.Finding.{Finding}
use Rattle.audit_base.specs.Least.{least_answer, any_below, first_answer}
use Rattle.audit_base.specs.Orders.{order_at, place_at, side_at, limit_at, same_side, may_rest}
use Rattle.audit_base.specs.Deals.{deal_at, deal_past_end, NamesOrders, DealsInRange}
use Rattle.audit_base.specs.Continuous.{cause, resting_order, traded_before, entered_in_ledger, size_where_entered, left_before_in_ledger, rests_before_in_ledger, active_after_in_ledger, uncancelled_before}
use Rattle.audit_base.specs.ContinuousRules.{ConformsAt}
use Rattle.audit_base.specs.ContinuousOffences.{conservation_finding, resting_priority_finding, waits_ahead, active_after_on_side, active_orders_meet, spread_finding, finding_at_place}
use Rattle.audit_base.proofs.LeastLemmas.{option_or-parts, least-none, any-at, any-none, any-found}
use Rattle.audit_base.proofs.OffenceLemmas.{none-only, option_or-none_both}
use Rattle.audit_base.proofs.OrderLemmas.{same_side-is}
use Rattle.audit_base.proofs.ContinuousOffenceLemmas.{traded-more, conforms-no_fault}
use Rattle.offence_list.specs.ContinuousLists.{order_of_record_meets, crossing_finding, offence_at_place}

uncancelled-before : (c : Option ℕ) (p : ℕ) → uncancelled_before c (suc p) ≡ true → uncancelled_before c p ≡ true
uncancelled-before None p e = refl
uncancelled-before (Some c) p e = let le = leb-true (suc p) c e in le-leb p c (omega arith)

module _ (orders : List Order) (deals : List Deal) where
  abbrev past : ℕ → ℕ → ℕ
  past = traded_before orders deals

  -- an order that is active after a place and not that of its record rested before it
  rested-before : (i x : ℕ) → place_at orders x ≢ i → rests_before_in_ledger orders past (suc i) x ≡ true → rests_before_in_ledger orders past i x ≡ true
  unfolding rests_before_in_ledger
  rested-before i x away t =
      let o = order_at orders x in
      let whole = size_where_entered (entered_in_ledger orders past x) orders past x in
      let parts = and_parts (may_rest o.life && nat_lt o.place (suc i)) (uncancelled_before o.cancelled (suc i) && nat_lt (past (suc i) x) whole) t in
      let first = and_parts (may_rest o.life) (nat_lt o.place (suc i)) parts.0 in
      let second = and_parts (uncancelled_before o.cancelled (suc i)) (nat_lt (past (suc i) x) whole) parts.1 in
      let place_lt = ltb-true o.place (suc i) first.1 in
      let earlier : o.place < i = elim (cases_lt o.place i) [ inl below ↦ below | inr above ↦ absurd (away (omega arith)) ] in
      let traded_lt = ltb-true (past (suc i) x) whole second.1 in
      let fewer : past i x < whole = omega (arith, traded-more orders deals i x, traded_lt) in
      and_from _ _ (and_from _ _ first.0 (lt-ltb o.place i earlier)) (and_from _ _ (uncancelled-before o.cancelled i second.0) (lt-ltb _ _ fewer))

  active-rested : (i x : ℕ) → place_at orders x ≢ i → active_after_in_ledger orders past i x ≡ true → rests_before_in_ledger orders past i x ≡ true
  unfolding active_after_in_ledger
  active-rested i x away t =
      let o = order_at orders x in
      elim (or_cases (rests_before_in_ledger orders past (suc i) x) ((o.place == i) && uncancelled_before o.cancelled (suc i) && nat_lt 0 (left_before_in_ledger orders past (suc i) x)) t) [
        | inl rest ↦ rested-before i x away rest
        | inr here ↦
            let outer = and_parts ((o.place == i) && uncancelled_before o.cancelled (suc i)) (nat_lt 0 (left_before_in_ledger orders past (suc i) x)) here in
            let inner = and_parts (o.place == i) (uncancelled_before o.cancelled (suc i)) outer.0 in
            absurd (away (eqb-true _ _ inner.0))
      ]

  rested-active : (j x : ℕ) → rests_before_in_ledger orders past (suc j) x ≡ true → active_after_in_ledger orders past j x ≡ true
  unfolding active_after_in_ledger
  rested-active j x t = or_left _ _ t

  none-rests_first : (x : ℕ) → rests_before_in_ledger orders past 0 x ≡ true → ⊥
  unfolding rests_before_in_ledger
  none-rests_first x t =
      let o = order_at orders x in
      let whole = size_where_entered (entered_in_ledger orders past x) orders past x in
      let parts = and_parts (may_rest o.life && nat_lt o.place 0) (uncancelled_before o.cancelled 0 && nat_lt (past 0 x) whole) t in
      let first = and_parts (may_rest o.life) (nat_lt o.place 0) parts.0 in
      let lt = ltb-true o.place 0 first.1 in
      omega arith

  -- an active bid and an active ask meet, and one of the two is the order of the record
  abbrev meets : ℕ → ℕ → ℕ → Bool
  meets i b a = active_after_on_side orders deals i Buy b && active_after_on_side orders deals i Sell a && nat_le (limit_at orders a) (limit_at orders b)

  abbrev own : ℕ → ℕ → ℕ → Bool
  own i b a = (place_at orders b == i) || (place_at orders a == i)

  own-meets : (i b a : ℕ) → b < length orders → a < length orders → meets i b a ≡ true → own i b a ≡ true → order_of_record_meets orders deals i ≡ true
  unfolding order_of_record_meets
  own-meets i b a hb ha m o =
      any-at (λ b. any_below (λ a. meets i b a && own i b a) (length orders)) (length orders) b hb
      (any-at (λ a. meets i b a && own i b a) (length orders) a ha (and_from _ _ m o))

  -- two orders that rest before a place, after which the rule holds, don't meet
  apart-before : (i b a : ℕ) → ((j : ℕ) → j < i → ConformsAt orders deals j) → b < length orders → a < length orders → meets i b a ≡ true
      → rests_before_in_ledger orders past i b ≡ true → rests_before_in_ledger orders past i a ≡ true → ⊥
  apart-before zero b a calm hb ha m rb ra = none-rests_first b rb
  apart-before (suc j) b a calm hb ha m rb ra =
      let i = suc j in
      let outer = and_parts (active_after_on_side orders deals i Buy b && active_after_on_side orders deals i Sell a) (nat_le (limit_at orders a) (limit_at orders b)) m in
      let both = and_parts (active_after_on_side orders deals i Buy b) (active_after_on_side orders deals i Sell a) outer.0 in
      let on_b = and_parts (same_side Buy (side_at orders b)) (active_after_in_ledger orders past i b) both.0 in
      let on_a = and_parts (same_side Sell (side_at orders a)) (active_after_in_ledger orders past i a) both.1 in
      let lt = (calm j (omega arith)).spread b a hb ha (same_side-is Buy _ on_b.0) (same_side-is Sell _ on_a.0) (rested-active j b rb) (rested-active j a ra) in
      let le = leb-true (limit_at orders a) (limit_at orders b) outer.1 in
      omega arith

  meets-own : (i b a : ℕ) → ((j : ℕ) → j < i → ConformsAt orders deals j) → b < length orders → a < length orders → meets i b a ≡ true → own i b a ≡ true
  meets-own i b a calm hb ha m =
      let outer = and_parts (active_after_on_side orders deals i Buy b && active_after_on_side orders deals i Sell a) (nat_le (limit_at orders a) (limit_at orders b)) m in
      let both = and_parts (active_after_on_side orders deals i Buy b) (active_after_on_side orders deals i Sell a) outer.0 in
      let on_b = and_parts (same_side Buy (side_at orders b)) (active_after_in_ledger orders past i b) both.0 in
      let on_a = and_parts (same_side Sell (side_at orders a)) (active_after_in_ledger orders past i a) both.1 in
      elim (cases_eq (place_at orders b) i) [
        | inl e ↦ or_left _ _ (eq-eqb _ _ e)
        | inr nb ↦ elim (cases_eq (place_at orders a) i) [
          | inl e ↦ or_right _ _ (eq-eqb _ _ e)
          | inr na ↦ absurd (apart-before i b a calm hb ha m (active-rested i b nb on_b.1) (active-rested i a na on_a.1))
        ]
      ]

  -- where the rule holds before the place, the spread is told as ever
  calm-crossing : (i : ℕ) → ((j : ℕ) → j < i → ConformsAt orders deals j) → crossing_finding orders deals i ≡ spread_finding orders deals i
  unfolding spread_finding active_orders_meet
  calm-crossing i calm = elim (cases_Bool (order_of_record_meets orders deals i)) [
    | inl t ↦ cond-true (order_of_record_meets orders deals i) (spread_finding orders deals i) None t
    | inr f ↦
        let none : active_orders_meet orders deals i ≡ false = false_from_ne_true _ (λ t.
        let row = any-found (λ b. any_below (λ a. meets i b a) (length orders)) (length orders) t in
        let cell = any-found (λ a. meets i row.0 a) (length orders) row.2 in
        both_ways _ f (own-meets i row.0 cell.0 row.1 cell.1 cell.2 (meets-own i row.0 cell.0 calm row.1 cell.1 cell.2))) in
        cond-false (order_of_record_meets orders deals i) (spread_finding orders deals i) None f ∙ sym (none-only _ _ none)
  ]

  pub calm-offence : (i : ℕ) → ((j : ℕ) → j < i → ConformsAt orders deals j) → offence_at_place orders deals i ≡ finding_at_place orders deals i
  calm-offence i calm =
      ap (λ (o : Option Finding). first_answer (least_answer (conservation_finding orders deals i) (length deals) ∷ least_answer (resting_priority_finding orders deals i) (length deals) ∷ o ∷ []))
      (calm-crossing i calm)

  crossing-none : (i : ℕ) → spread_finding orders deals i ≡ None → crossing_finding orders deals i ≡ None
  crossing-none i e = elim (cases_Bool (order_of_record_meets orders deals i)) [
    | inl t ↦ cond-true (order_of_record_meets orders deals i) (spread_finding orders deals i) None t ∙ e
    | inr f ↦ cond-false (order_of_record_meets orders deals i) (spread_finding orders deals i) None f
  ]

  -- no finding, no offence
  offence-none : (i : ℕ) → finding_at_place orders deals i ≡ None → offence_at_place orders deals i ≡ None
  offence-none i e =
      let a = option_or-parts _ _ e in
      let b = option_or-parts _ _ a.1 in
      let c = option_or-parts _ _ b.1 in
      option_or-none_both _ _ a.0 (option_or-none_both _ _ b.0 (option_or-none_both _ _ (crossing-none i c.0) refl))

  pub conforms-no_offence : All (NamesOrders orders) deals → DealsInRange deals → (i : ℕ) → ConformsAt orders deals i → offence_at_place orders deals i ≡ None
  conforms-no_offence named ranges i c = offence-none i (conforms-no_fault orders deals named ranges i c)

  -- a place of no order has no offence
  module _ (named : All (NamesOrders orders) deals) (i : ℕ) (away : (x : ℕ) → x < length orders → place_at orders x ≢ i) where
    no-cause : (k : ℕ) → k < length deals → (cause orders (deal_at deals k) == i) ≡ false
    no-cause k lt =
        let d = deal_at deals k in
        let n = named k deal_past_end lt in
        let b = away d.bid n.bid_inside in
        let a = away d.ask n.ask_inside in
        ne_eqb (cause orders d) i (λ e. elim (cases_lt (place_at orders d.bid) (place_at orders d.ask)) [
          | inl less ↦ a (omega arith)
          | inr more ↦ b (omega arith)
        ])

    no-conservation : (k : ℕ) → k < length deals → conservation_finding orders deals i k ≡ None
    no-conservation k lt = cond-false (cause orders (deal_at deals k) == i) _ None (no-cause k lt)

    no-priority : (k : ℕ) → k < length deals → resting_priority_finding orders deals i k ≡ None
    unfolding resting_priority_finding
    no-priority k lt = none-only _ _ (and_left (cause orders (deal_at deals k) == i) (any_below (waits_ahead orders deals i (resting_order orders (deal_at deals k))) (length orders)) (no-cause k lt))

    no-crossing : order_of_record_meets orders deals i ≡ false
    unfolding order_of_record_meets
    no-crossing = any-none (λ b. any_below (λ a. meets i b a && own i b a) (length orders)) (length orders) (λ b hb.
        any-none (λ a. meets i b a && own i b a) (length orders) (λ a ha.
        and_right (meets i b a) (own i b a) (or_from _ _ (ne_eqb _ _ (away b hb)) (ne_eqb _ _ (away a ha)))))

    pub no-offence : offence_at_place orders deals i ≡ None
    no-offence = option_or-none_both _ _ (least-none (conservation_finding orders deals i) (length deals) no-conservation)
        (option_or-none_both _ _ (least-none (resting_priority_finding orders deals i) (length deals) no-priority)
        (option_or-none_both _ _ (cond-false (order_of_record_meets orders deals i) (spread_finding orders deals i) None no-crossing) refl))
