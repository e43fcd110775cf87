-- One record of an order: what its deals show, and what the books hold before the next.
use Rattle.std.proofs.Common.{◌≡◌, ◌≢◌, ◌<◌, ◌≤◌, ◌+◌, ◌-◌, ◌⊎◌, ℕ, zero, suc, List, [], ◌∷◌, length, Bool, true, false, cond, Option, Some, None, refl, sym, ap, ◌∙◌, arith, inl, inr, subst, All, get_or}
use Rattle.std.specs.Prelude.{nat_lt, ◌==◌, ◌&&◌, Contains}
use Rattle.std.proofs.lemmas.Bool.{cases_eq, cases_lt, both_ways, lt-ltb, le-ltb, eq-eqb, ne_eqb, eqb-true, and_parts, and_from, and_left, and_right, or_cases, cond-true, cond-false}
use Rattle.std.proofs.lemmas.List.Elements.{All-contains_itself}
use Rattle.audit_base.specs.declared.terms.Side.{Side}
use Rattle.audit_base.specs.declared.orders.Order.{Order}
use Rattle.audit_base.specs.declared.orders.Deal.{Deal}
use Rattle.audit_base.specs.declared.findings.Finding.{Finding}
use Rattle.audit_base.specs.Least.{any_below, least_answer}
use Rattle.audit_base.specs.Orders.{order_at, side_at, place_at, other_side, may_rest, IsOrderList}
use Rattle.audit_base.specs.Priority.{better, best_order}
use Rattle.audit_base.specs.Deals.{names_order, deal_at, deal_past_end, NamesOrders}
use Rattle.audit_base.specs.Continuous.{cause, resting_order, incoming_order, traded_before, traded_at, uncancelled_before, size_in_ledger}
use Rattle.audit_base.specs.ContinuousRules.{ConformsAt}
use Rattle.audit_base.specs.ContinuousOffences.{conservation_finding, waits_ahead, resting_priority_finding, spread_finding, traded_shown_after, finding_at_place}
use Rattle.audit_base.specs.Shows.{priority_property}
use Rattle.audit_base.specs.Shows.{finding_at_trade, show_order, show_if_found}
use Rattle.audit_base.proofs.SumLemmas.{some_part}
use Rattle.audit_base.proofs.OrderLemmas.{same_place, place-rises, not_both_sides, side-other}
use Rattle.audit_base.proofs.LeastLemmas.{option_or-none, option_or-some}
use Rattle.audit_base.proofs.OffenceLemmas.{get_or-default, none-only, option_or-none_both}
use Rattle.audit_base.proofs.ContinuousOffenceLemmas.{traded-more, quiet-conforms}
use Rattle.order_book.specs.declared.books.Resting.{Resting}
use Rattle.continuous_audit.specs.Holding.{IsListOfAmounts, IsFilledInFront, resting_left_before}
use Rattle.continuous_audit.proofs.HoldLemmas.{hold-same}
use Rattle.continuous_audit.proofs.RestLemmas.{resting_left-older, resting_left-newest, resting_left-future, traded-gap}
use Rattle.continuous_audit.proofs.HeadLemmas.{after_fills-clear, after_fills-empty, none-over, over-first, best-over, rested_now, rested_still, still-less}

-- The parts of the finding at a place.

module _ (orders : List Order) (deals : List Deal) (p : ℕ) where
  abbrev conservation : Option Finding
  conservation = least_answer (conservation_finding orders deals p) (length deals)

  abbrev priority : Option Finding
  priority = least_answer (resting_priority_finding orders deals p) (length deals)

  pub conservation-shown : (f : Finding) → conservation ≡ Some f → finding_at_place orders deals p ≡ Some f
  conservation-shown f e = option_or-some _ _ f e

  pub priority-shown : (f : Finding) → conservation ≡ None → priority ≡ Some f → finding_at_place orders deals p ≡ Some f
  priority-shown f c e = option_or-none _ _ c ∙ option_or-some _ _ f e

  pub spread-shown : (f : Finding) → conservation ≡ None → priority ≡ None → spread_finding orders deals p ≡ Some f → finding_at_place orders deals p ≡ Some f
  spread-shown f c q e = option_or-none _ _ c ∙ option_or-none _ _ q ∙ option_or-some _ _ f e

  pub none-shown : conservation ≡ None → priority ≡ None → spread_finding orders deals p ≡ None → finding_at_place orders deals p ≡ None
  none-shown c q e = option_or-none_both _ _ c (option_or-none_both _ _ q (option_or-none_both _ _ e refl))

module _ (orders : List Order) (list : IsOrderList orders) (deals : List Deal) (named : All (NamesOrders orders) deals) (n : ℕ) (n_inside : n < length orders) where
  abbrev p : ℕ
  p = place_at orders n

  abbrev past : ℕ → ℕ → ℕ
  past = traded_before orders deals

  abbrev pub s' : Side
  s' = other_side (side_at orders n)

  -- a deal of this cause, by its index
  pub record IsOfCause (j : ℕ) : Type 0 where
    pub inside : j < length deals
    pub at : cause orders (deal_at deals j) ≡ p

  named-at : (j : ℕ) → j < length deals → NamesOrders orders (deal_at deals j)
  named-at j lt = named j deal_past_end lt

  -- its incoming order is that of the record, and its resting order is an earlier
  -- one of the other side
  pub record Ends (d : Deal) (r : ℕ) : Type 0 where
    pub incoming_is : incoming_order orders d ≡ n
    pub resting_is : resting_order orders d ≡ r
    pub inside : r < length orders
    pub of_side : side_at orders r ≡ s'
    pub earlier : place_at orders r < p

  bid-ask : (d : Deal) → NamesOrders orders d → place_at orders d.bid ≢ place_at orders d.ask
  bid-ask d is e = not_both_sides (sym is.buys ∙ ap (side_at orders) (same_place orders list d.bid d.ask is.bid_inside is.ask_inside e) ∙ is.sells)

  pub ends : (d : Deal) → NamesOrders orders d → cause orders d ≡ p → (r : ℕ) × Ends d r
  ends d is at = elim (cases_lt (place_at orders d.bid) (place_at orders d.ask)) [
    | inl lt ↦
        let later : d.ask ≡ n = same_place orders list d.ask n is.ask_inside n_inside (omega arith) in
        let t : nat_lt (place_at orders d.bid) (place_at orders d.ask) ≡ true = lt-ltb _ _ lt in (
          d.bid,
          record {
            incoming_is = cond-true _ d.ask d.bid t ∙ later;
            resting_is = cond-true _ d.bid d.ask t;
            inside = is.bid_inside;
            of_side = is.buys ∙ ap other_side (sym is.sells ∙ ap (side_at orders) later);
            earlier = omega arith;
          },
        )
    | inr le ↦
        let apart = bid-ask d is in
        let less : place_at orders d.ask < place_at orders d.bid = omega (arith, apart) in
        let later : d.bid ≡ n = same_place orders list d.bid n is.bid_inside n_inside (omega arith) in
        let f : nat_lt (place_at orders d.bid) (place_at orders d.ask) ≡ false = le-ltb _ _ le in (
          d.ask,
          record {
            incoming_is = cond-false _ d.ask d.bid f ∙ later;
            resting_is = cond-false _ d.bid d.ask f;
            inside = is.ask_inside;
            of_side = is.sells ∙ ap other_side (sym is.buys ∙ ap (side_at orders) later);
            earlier = omega arith;
          },
        )
  ]

  -- what trades in the deals of the record but its own order is the resting order of one
  traded-deal : (k : ℕ) → 0 < traded_at orders deals p k → (j : ℕ) × IsOfCause j × (names_order k (deal_at deals j) ≡ true)
  unfolding traded_at
  traded-deal k some =
      let found = some_part (Contains deals) (λ d. names_order k d && (cause orders d == p)) (λ d. d.quantity) deals (All-contains_itself deals) some in
      let d = found.0 in
      let c : Contains deals d = found.1 in
      let parts = and_parts (names_order k d) (cause orders d == p) found.2 in
      let is : deal_at deals c.0 ≡ d = get_or-default deals c.0 deal_past_end d c.1 ∙ c.2 in
      (c.0, record { inside = c.1; at = ap (cause orders) is ∙ eqb-true _ _ parts.1 }, ap (names_order k) is ∙ parts.0)

  pub traded-resting : (k : ℕ) → k ≢ n → 0 < traded_at orders deals p k → (j : ℕ) × IsOfCause j × (resting_order orders (deal_at deals j) ≡ k) × (side_at orders k ≡ s')
  traded-resting k ne some =
      let found = traded-deal k some in
      let j = found.0 in
      let of = found.1 in
      let d = deal_at deals j in
      let is = named-at j of.inside in
      let e = ends d is of.at in
      let both : k ≡ e.0 = elim (or_cases (d.bid == k) (d.ask == k) found.2) [
        | inl b ↦ let at : d.bid ≡ k = eqb-true _ _ b in elim (cases_lt (place_at orders d.bid) (place_at orders d.ask)) [
          | inl lt ↦ sym at ∙ sym (cond-true _ d.bid d.ask (lt-ltb _ _ lt)) ∙ e.1.resting_is
          | inr le ↦ absurd (ne (sym at ∙ sym (cond-false _ d.ask d.bid (le-ltb _ _ le)) ∙ e.1.incoming_is))
        ]
        | inr a ↦ let at : d.ask ≡ k = eqb-true _ _ a in elim (cases_lt (place_at orders d.bid) (place_at orders d.ask)) [
          | inl lt ↦ absurd (ne (sym at ∙ sym (cond-true _ d.ask d.bid (lt-ltb _ _ lt)) ∙ e.1.incoming_is))
          | inr le ↦ sym at ∙ sym (cond-false _ d.bid d.ask (le-ltb _ _ le)) ∙ e.1.resting_is
        ]
      ] in
      (j, of, e.1.resting_is ∙ sym both, ap (side_at orders) both ∙ e.1.of_side)

  -- on its own side nothing else trades
  own-still : (k : ℕ) → k ≢ n → side_at orders k ≡ side_at orders n → traded_at orders deals p k ≡ 0
  own-still k ne of = elim (cases_lt 0 (traded_at orders deals p k)) [
    | inr none ↦ omega arith
    | inl some ↦ let t = traded-resting k ne some in absurd (side-other (side_at orders n) (sym of ∙ t.3))
  ]

  abbrev pub resting_left_after : ℕ → ℕ
  resting_left_after = rested_still orders list deals p

  abbrev pub now : ℕ → ℕ
  now = rested_now orders list deals p

  n-waits : now n ≡ 0
  n-waits = resting_left-future orders past p n (omega arith)

  -- the book of its own side is as before
  pub own-holds : (xs : List Resting) → IsListOfAmounts orders (side_at orders n) now xs → IsListOfAmounts orders (side_at orders n) resting_left_after xs
  own-holds xs holds = hold-same orders (side_at orders n) now resting_left_after xs (λ k lt of. elim (cases_eq k n) [
    | inl e ↦ let z : now k ≡ 0 = ap now e ∙ n-waits in omega arith
    | inr ne ↦ let z = own-still k ne of in omega arith
  ]) holds

  -- The priority of the deals, by the first order of the settled book of the other side.

  pub priority-away : (j : ℕ) → cause orders (deal_at deals j) ≢ p → resting_priority_finding orders deals p j ≡ None
  unfolding resting_priority_finding
  priority-away j ne = none-only _ _ (and_left (cause orders (deal_at deals j) == p) (any_below (waits_ahead orders deals p (resting_order orders (deal_at deals j))) (length orders)) (ne_eqb _ _ ne))

  module _ (j : ℕ) (of : IsOfCause j) where
    abbrev r : ℕ
    r = resting_order orders (deal_at deals j)

    r-ends : Ends (deal_at deals j) r
    r-ends = let e = ends (deal_at deals j) (named-at j of.inside) of.at in subst (Ends (deal_at deals j)) (sym e.1.resting_is) e.1

    pub priority-none : IsFilledInFront orders s' now resting_left_after [] → resting_priority_finding orders deals p j ≡ None
    unfolding resting_priority_finding
    priority-none s = none-only _ _ (and_right (cause orders (deal_at deals j) == p) (any_below (waits_ahead orders deals p r) (length orders)) (none-over orders list deals p s' r r-ends.inside r-ends.of_side s))

    module _ (h : Resting) (zs : List Resting) (s : IsFilledInFront orders s' now resting_left_after (h ∷ zs)) where
      over : any_below (waits_ahead orders deals p r) (length orders) ≡ better (order_at orders h.index) (order_at orders r)
      over = over-first orders list deals p s' r r-ends.inside r-ends.of_side h zs s

      pub priority-clear : better (order_at orders h.index) (order_at orders r) ≡ false → resting_priority_finding orders deals p j ≡ None
      unfolding resting_priority_finding
      priority-clear f = none-only _ _ (and_right (cause orders (deal_at deals j) == p) (any_below (waits_ahead orders deals p r) (length orders)) (over ∙ f))

      pub priority-found : better (order_at orders h.index) (order_at orders r) ≡ true
          → resting_priority_finding orders deals p j ≡ Some (finding_at_trade (priority_property (side_at orders r)) (deal_at deals j) (show_order orders (traded_shown_after orders deals p) h.index) (show_order orders (traded_shown_after orders deals p) r))
      unfolding resting_priority_finding
      priority-found t =
          let on : ((cause orders (deal_at deals j) == p) && any_below (waits_ahead orders deals p r) (length orders)) ≡ true = and_from _ _ (eq-eqb _ _ of.at) (over ∙ t) in
          let b = best-over orders list deals p s' r r-ends.inside r-ends.of_side h zs s t in
          cond-true _ (Some (finding_at_trade (priority_property (side_at orders r)) (deal_at deals j) (show_if_found orders (traded_shown_after orders deals p) (best_order orders (waits_ahead orders deals p r))) (show_order orders (traded_shown_after orders deals p) r))) None on
          ∙ ap (λ (o : Option ℕ). Some (finding_at_trade (priority_property (side_at orders r)) (deal_at deals j) (show_if_found orders (traded_shown_after orders deals p) o) (show_order orders (traded_shown_after orders deals p) r))) b

  -- where no deal passes the first over, the book holds what is left
  pub other-holds : (h : Resting) (zs : List Resting) → IsFilledInFront orders s' now resting_left_after (h ∷ zs) → ((j : ℕ) → IsOfCause j → better (order_at orders h.index) (order_at orders (resting_order orders (deal_at deals j))) ≡ false) → IsListOfAmounts orders s' resting_left_after (h ∷ zs)
  other-holds h zs s clear = after_fills-clear orders list s' now resting_left_after h zs (still-less orders list deals p) s (λ k inside of less over.
      let ne : k ≢ n = λ e. side-other (side_at orders n) (sym (ap (side_at orders) e) ∙ of) in
      let t = traded-resting k ne (omega arith) in
      both_ways _ (clear t.0 t.1) (subst (λ m. better (order_at orders h.index) (order_at orders m) ≡ true) (sym t.2) over))

  pub other-empty : IsFilledInFront orders s' now resting_left_after [] → IsListOfAmounts orders s' resting_left_after []
  other-empty s = after_fills-empty orders list s' now resting_left_after (still-less orders list deals p) s

  -- What rests after the record and before the next order.

  pub resting_left-after : (k : ℕ) → k < length orders → k ≢ n → resting_left_before orders past (suc p) k ≡ cond (uncancelled_before (order_at orders k).cancelled (suc p)) (resting_left_after k) 0
  resting_left-after k inside ne = elim (cases_lt (place_at orders k) p) [
    | inl earlier ↦ resting_left-older orders past p (suc p) k (traded_at orders deals p k) (omega arith) earlier (traded-more orders deals p k)
    | inr later ↦
        let apart : place_at orders k ≢ p = λ e. ne (same_place orders list k n inside n_inside e) in
        let none = resting_left-future orders past (suc p) k (omega (arith, apart)) in
        let zero_now = resting_left-future orders past p k later in
        let zero_still : resting_left_after k ≡ 0 = omega arith in
        none ∙ sym (ap (λ (m : ℕ). cond (uncancelled_before (order_at orders k).cancelled (suc p)) m 0) zero_still ∙ nothing (uncancelled_before (order_at orders k).cancelled (suc p)))
  ]
    where
      nothing : (b : Bool) → cond {A = ℕ} b 0 0 ≡ 0
      nothing true = refl
      nothing false = refl

  pub resting_left-own : resting_left_before orders past (suc p) n ≡ cond (may_rest (order_at orders n).life && uncancelled_before (order_at orders n).cancelled (suc p)) (size_in_ledger orders past n - past (suc p) n) 0
  resting_left-own = resting_left-newest orders past (suc p) n (past (suc p) n) (omega arith) refl

  -- up to a place q before which no other order comes
  module _ (q : ℕ) (le : suc p ≤ q) (next : (k : ℕ) → k < length orders → n < k → q ≤ place_at orders k) where
    pub no-cause : All (λ d. cause orders d < suc p ⊎ q ≤ cause orders d) deals
    no-cause j e lt =
        let d = get_or deals j e in
        let is = named j e lt in
        let bid = come d.bid is.bid_inside in
        let ask = come d.ask is.ask_inside in
        elim bid [
          | inr later ↦ inr (omega arith)
          | inl low ↦ elim ask [ inr later ↦ inr (omega arith) | inl lower ↦ inl (omega arith) ]
        ]
      where
        come : (k : ℕ) → k < length orders → (place_at orders k < suc p) ⊎ (q ≤ place_at orders k)
        come k inside = elim (cases_lt n k) [
          | inl more ↦ inr (next k inside more)
          | inr less ↦ elim (cases_eq k n) [
            | inl e ↦ let same : place_at orders k ≡ p = ap (place_at orders) e in inl (omega arith)
            | inr ne ↦ let up = place-rises orders list k n (omega (arith, ne)) n_inside in inl (omega arith)
          ]
        ]

    pub resting_left-next : (k : ℕ) → k < length orders → resting_left_before orders past q k ≡ cond (uncancelled_before (order_at orders k).cancelled q) (resting_left_before orders past (suc p) k) 0
    resting_left-next k inside = elim (cases_lt (place_at orders k) (suc p)) [
      | inl earlier ↦
          let same = traded-gap orders deals (suc p) q k le no-cause in
          resting_left-older orders past (suc p) q k 0 le earlier (same ∙ (omega arith)) ∙ ap (λ (m : ℕ). cond (uncancelled_before (order_at orders k).cancelled q) m 0) (omega arith)
      | inr later ↦
          let more : n < k = elim (cases_lt n k) [
            | inl lt ↦ lt
            | inr ge ↦ elim (cases_eq k n) [
              | inl e ↦ let same : place_at orders k ≡ p = ap (place_at orders) e in absurd (omega arith)
              | inr ne ↦ let up = place-rises orders list k n (omega (arith, ne)) n_inside in absurd (omega arith)
            ]
          ] in
          let none = resting_left-future orders past q k (next k inside more) in
          let zero_now = resting_left-future orders past (suc p) k later in
          none ∙ sym (ap (λ (m : ℕ). cond (uncancelled_before (order_at orders k).cancelled q) m 0) zero_now ∙ nothing (uncancelled_before (order_at orders k).cancelled q))
    ]
      where
        nothing : (b : Bool) → cond {A = ℕ} b 0 0 ≡ 0
        nothing true = refl
        nothing false = refl

    -- where the rule holds up to the record, it holds up to the next one
    pub quiet-until : ConformsAt orders deals p → (i : ℕ) → p ≤ i → i < q → ConformsAt orders deals i
    quiet-until c i from below = subst (λ j. ConformsAt orders deals j) (omega arith) (along (i - p) (omega arith))
      where
        along : (m : ℕ) → p + m < q → ConformsAt orders deals (p + m)
        along zero lt = subst (λ j. ConformsAt orders deals j) (omega arith) c
        along (suc m) lt =
            let before = along m (omega arith) in
            let no_order : (x : ℕ) → x < length orders → place_at orders x ≢ suc (p + m) = λ x inside e. elim (cases_lt n x) [
              | inl more ↦ let l = next x inside more in omega arith
              | inr less ↦ elim (cases_eq x n) [
                | inl same ↦ let f : place_at orders x ≡ p = ap (place_at orders) same in omega arith
                | inr ne ↦ let up = place-rises orders list x n (omega (arith, ne)) n_inside in omega arith
              ]
            ] in
            let no_deal : All (λ d. cause orders d ≢ suc (p + m)) deals = λ j e inside f. elim (no-cause j e inside) [ inl l ↦ omega arith | inr l ↦ omega arith ] in
            subst (λ j. ConformsAt orders deals j) (omega arith) (quiet-conforms orders deals (p + m) no_order no_deal before)
