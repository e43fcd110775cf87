-- The order of a record meets an active order of the other side exactly where it meets the best that rests.
use Rattle.std.proofs.Common.{◌≡◌, ◌≢◌, ◌<◌, ◌≤◌, ◌⊎◌, ℕ, suc, List, length, Bool, true, false, Option, None, Some, refl, sym, ap, ◌∙◌, arith, inl, inr, subst}
use Rattle.std.specs.Prelude.{◌&&◌, ◌||◌, ◌==◌, nat_le, nat_lt}
use Rattle.std.proofs.lemmas.Bool.{cases_Bool, cases_eq, and_from, and_parts, both_ways, cond-true, cond-false, eq-eqb, eqb-true, false_from_ne_true, le-leb, leb-true, lt-ltb, ltb-true, or_cases, or_left, or_right}
use Rattle.audit_base.specs.declared.orders.Order.{Order}
use Rattle.audit_base.specs.declared.orders.Deal.{Deal}
use Rattle.audit_base.specs.declared.terms.Side.{Side}
use Rattle.audit_base.specs.declared.terms.Side.TheVariants.{Buy, Sell}
use Rattle.audit_base.specs.declared.terms.Which.TheVariants as which
use Rattle.audit_base.specs.declared.findings.Property.TheVariants as property
use Rattle.audit_base.specs.Continuous.{active_after_in_ledger, left_before_in_ledger, rests_before_in_ledger, size_in_ledger, size_of_order, traded_before, uncancelled_before}
use Rattle.audit_base.specs.ContinuousOffences.{active_after_on_side, active_orders_meet, spread_finding, traded_shown_after}
use Rattle.audit_base.specs.Least.{any_below}
use Rattle.audit_base.specs.Orders.{limit_at, may_rest, order_at, place_at, same_side, side_at, IsOrderList}
use Rattle.audit_base.specs.Priority.{best_order, better, Better, outranks}
use Rattle.audit_base.specs.Shows.{finding_at_record, show_if_found, show_order}
use Rattle.audit_base.proofs.LeastLemmas.{any-at, any-none}
use Rattle.audit_base.proofs.OrderLemmas.{is-same_side, place-rises, same_place, same_side-is}
use Rattle.audit_base.proofs.PriorityLemmas.{IsBest, ask-outranks, best-exists, best-is, better-outranks, bid-outranks, is-best, Better-onward, Better-one_way, Better-strict, Better-total}
use Rattle.continuous_audit.proofs.FlawLemmas.{upto-n}
use Rattle.offence_list.specs.ContinuousLists.{crossing_finding, order_of_record_meets}
use Rattle.continuous_offences.specs.Books.{waits, waits_on}
use Rattle.continuous_offences.specs.Crossing.{best_of_side}
use Rattle.order_arrivals.specs.Resting.{has_left_with}

module _ (orders : List Order) (list : IsOrderList orders) (deals : List Deal) (n : ℕ) (n_inside : n < length orders) where
  abbrev p : ℕ
  p = place_at orders n

  abbrev past : ℕ → ℕ → ℕ
  past = traded_before orders deals

  abbrev act : ℕ → Bool
  act = active_after_in_ledger orders past p

  abbrev test : Side → ℕ → Bool
  test side = waits_on orders deals side n (suc p) (suc p)

  abbrev pub stands : Bool
  stands = has_left_with (order_at orders n) (suc p) (size_of_order orders deals n) (past (suc p) n)

  -- an active order is that of the record, or an earlier one that rests
  rest-parts : (x : ℕ) → rests_before_in_ledger orders past (suc p) x ≡ true → (place_at orders x < suc p) × (waits orders deals (suc p) (suc p) x ≡ true)
  unfolding rests_before_in_ledger size_in_ledger
  rest-parts x t =
      let o = order_at orders x in
      let both = and_parts (may_rest o.life && nat_lt (place_at orders x) (suc p)) (uncancelled_before o.cancelled (suc p) && nat_lt (past (suc p) x) (size_of_order orders deals x)) t in
      let front = and_parts (may_rest o.life) (nat_lt (place_at orders x) (suc p)) both.0 in
      (ltb-true _ _ front.1, and_from _ _ front.0 both.1)

  parts-rest : (x : ℕ) → place_at orders x < suc p → waits orders deals (suc p) (suc p) x ≡ true → rests_before_in_ledger orders past (suc p) x ≡ true
  unfolding rests_before_in_ledger size_in_ledger
  parts-rest x earlier t =
      let o = order_at orders x in
      let both = and_parts (may_rest o.life) (uncancelled_before o.cancelled (suc p) && nat_lt (past (suc p) x) (size_of_order orders deals x)) t in
      and_from _ _ (and_from _ _ both.0 (lt-ltb _ _ earlier)) both.1

  active-earlier : (x : ℕ) → x < length orders → x ≢ n → act x ≡ true → (x < n) × (waits orders deals (suc p) (suc p) x ≡ true)
  unfolding active_after_in_ledger
  active-earlier x lt ne t =
      let o = order_at orders x in
      elim (or_cases (rests_before_in_ledger orders past (suc p) x) ((place_at orders x == p) && uncancelled_before o.cancelled (suc p) && nat_lt 0 (left_before_in_ledger orders past (suc p) x)) t) [
        | inl rest ↦
            let parts = rest-parts x rest in
            let le = upto-n orders list n n_inside x lt (let e = parts.0 in omega arith) in
            (omega (arith, ne), parts.1)
        | inr here ↦
            let outer = and_parts ((place_at orders x == p) && uncancelled_before o.cancelled (suc p)) (nat_lt 0 (left_before_in_ledger orders past (suc p) x)) here in
            let inner = and_parts (place_at orders x == p) (uncancelled_before o.cancelled (suc p)) outer.0 in
            absurd (ne (same_place orders list x n lt n_inside (eqb-true _ _ inner.0)))
      ]

  earlier-active : (x : ℕ) → x < n → waits orders deals (suc p) (suc p) x ≡ true → act x ≡ true
  unfolding active_after_in_ledger
  earlier-active x below t = or_left _ _ (parts-rest x (let up = place-rises orders list x n below n_inside in omega arith) t)

  active-own : act n ≡ true → stands ≡ true
  unfolding active_after_in_ledger size_in_ledger
  active-own t =
      let o = order_at orders n in
      elim (or_cases (rests_before_in_ledger orders past (suc p) n) ((place_at orders n == p) && uncancelled_before o.cancelled (suc p) && nat_lt 0 (left_before_in_ledger orders past (suc p) n)) t) [
        | inl rest ↦ (and_parts (may_rest o.life) (uncancelled_before o.cancelled (suc p) && nat_lt (past (suc p) n) (size_of_order orders deals n)) (rest-parts n rest).1).1
        | inr here ↦
            let outer = and_parts ((place_at orders n == p) && uncancelled_before o.cancelled (suc p)) (nat_lt 0 (left_before_in_ledger orders past (suc p) n)) here in
            let inner = and_parts (place_at orders n == p) (uncancelled_before o.cancelled (suc p)) outer.0 in
            let left = ltb-true 0 (left_before_in_ledger orders past (suc p) n) outer.1 in
            and_from _ _ inner.1 (lt-ltb _ _ (omega arith))
      ]

  own-active : stands ≡ true → act n ≡ true
  unfolding active_after_in_ledger size_in_ledger
  own-active t =
      let o = order_at orders n in
      let both = and_parts (uncancelled_before o.cancelled (suc p)) (nat_lt (past (suc p) n) (size_of_order orders deals n)) t in
      let fewer = ltb-true _ _ both.1 in
      or_right (rests_before_in_ledger orders past (suc p) n) _ (and_from _ _ (and_from _ _ (eq-eqb p p refl) both.0) (lt-ltb _ _ (omega arith)))

  -- the test of the book of a side
  test-parts : (side : Side) (x : ℕ) → test side x ≡ true → (x < n) × (side_at orders x ≡ side) × (waits orders deals (suc p) (suc p) x ≡ true)
  test-parts side x t =
      let outer = and_parts (nat_lt x n) (same_side side (side_at orders x) && waits orders deals (suc p) (suc p) x) t in
      let inner = and_parts (same_side side (side_at orders x)) (waits orders deals (suc p) (suc p) x) outer.1 in
      (ltb-true _ _ outer.0, same_side-is side (side_at orders x) inner.0, inner.1)

  parts-test : (side : Side) (x : ℕ) → x < n → side_at orders x ≡ side → waits orders deals (suc p) (suc p) x ≡ true → test side x ≡ true
  parts-test side x below of t = and_from _ _ (lt-ltb _ _ below) (and_from _ _ (is-same_side side (side_at orders x) (sym of)) t)

  abbrev on : Side → ℕ → Bool
  on side = active_after_on_side orders deals p side

  on-parts : (side : Side) (x : ℕ) → on side x ≡ true → (side_at orders x ≡ side) × (act x ≡ true)
  on-parts side x t = let both = and_parts (same_side side (side_at orders x)) (act x) t in (same_side-is side (side_at orders x) both.0, both.1)

  parts-on : (side : Side) (x : ℕ) → side_at orders x ≡ side → act x ≡ true → on side x ≡ true
  parts-on side x of t = and_from _ _ (is-same_side side (side_at orders x) (sym of)) t

  test-on : (side : Side) (x : ℕ) → test side x ≡ true → on side x ≡ true
  test-on side x t = let parts = test-parts side x t in parts-on side x parts.1 (earlier-active x parts.0 parts.2)

  on-test : (side : Side) (x : ℕ) → x < length orders → x ≢ n → on side x ≡ true → test side x ≡ true
  on-test side x lt ne t = let parts = on-parts side x t in let early = active-earlier x lt ne parts.1 in parts-test side x early.0 parts.0 early.1

  -- the best active order of the other side
  pub best-other : (side : Side) → side_at orders n ≢ side → (best : ℕ) → best_order orders (test side) ≡ Some best → best_order orders (on side) ≡ Some best
  best-other side apart best e =
      let is = best-is orders (test side) best e in
      is-best orders list (on side) side (λ x lt t. (on-parts side x t).0) best (record {
        inside = is.inside;
        passes = test-on side best is.passes;
        none_better = λ x lt t. is.none_better x lt (on-test side x lt (λ f. apart (ap (side_at orders) (sym f) ∙ (on-parts side x t).0)) t);
      })

  -- the best active order of its own side, where the order itself is active
  pub best-own : stands ≡ true → (same : Option ℕ) → same ≡ best_order orders (test (side_at orders n)) → best_order orders (on (side_at orders n)) ≡ Some (best_of_side orders n same)
  best-own t None e = is-best orders list (on (side_at orders n)) (side_at orders n) (λ x lt u. (on-parts (side_at orders n) x u).0) n (record {
    inside = n_inside;
    passes = parts-on (side_at orders n) n refl (own-active t);
    none_better = λ x lt u over. elim (cases_eq x n) [
      | inl f ↦ Better-strict orders n (subst (λ (k : ℕ). Better orders k n) f over)
      | inr ne ↦ let found = best-exists orders (test (side_at orders n)) x lt (on-test (side_at orders n) x lt ne u) in none-some (best_order orders (test (side_at orders n))) found.0 (sym e) found.1
    ];
  })
    where
      none-some : (o : Option ℕ) (x : ℕ) → o ≡ None → o ≡ Some x → ⊥
      none-some None x a b = cc
      none-some (Some y) x a b = cc
  best-own t (Some b) e = elim (cases_Bool (better (order_at orders b) (order_at orders n))) [
    | inl over ↦ is-best orders list (on (side_at orders n)) (side_at orders n) (λ x lt u. (on-parts (side_at orders n) x u).0) b (record {
      inside = is.inside;
      passes = test-on (side_at orders n) b is.passes;
      none_better = λ x lt u over'. elim (cases_eq x n) [
        | inl f ↦ Better-one_way orders b n over (subst (λ (k : ℕ). Better orders k b) f over')
        | inr ne ↦ is.none_better x lt (on-test (side_at orders n) x lt ne u) over'
      ];
    }) ∙ ap (λ (k : ℕ). Some k) (sym (cond-true (better (order_at orders b) (order_at orders n)) b n over))
    | inr under ↦ is-best orders list (on (side_at orders n)) (side_at orders n) (λ x lt u. (on-parts (side_at orders n) x u).0) n (record {
      inside = n_inside;
      passes = parts-on (side_at orders n) n refl (own-active t);
      none_better = λ x lt u over'. elim (cases_eq x n) [
        | inl f ↦ Better-strict orders n (subst (λ (k : ℕ). Better orders k n) f over')
        | inr ne ↦
            let passes = on-test (side_at orders n) x lt ne u in
            elim (cases_eq x b) [
              | inl g ↦ both_ways _ under (subst (λ (k : ℕ). Better orders k n) g over')
              | inr other ↦ elim (Better-total orders list x b lt is.inside ((test-parts (side_at orders n) x passes).1 ∙ sym (test-parts (side_at orders n) b is.passes).1) other) [
                | inl up ↦ is.none_better x lt passes up
                | inr down ↦ both_ways _ under (Better-onward orders b x n down over')
              ]
            ]
      ];
    }) ∙ ap (λ (k : ℕ). Some k) (sym (cond-false (better (order_at orders b) (order_at orders n)) b n under))
  ]
    where
      is : IsBest orders (test (side_at orders n)) b
      is = best-is orders (test (side_at orders n)) b (sym e)

  -- Whether a bid and an ask meet of which one is the order of the record.

  abbrev IsMeeting : ℕ → ℕ → Type 0
  IsMeeting b a = (b < length orders) × (a < length orders) × (on Buy b ≡ true) × (on Sell a ≡ true) × (limit_at orders a ≤ limit_at orders b)

  meets-at : (b a : ℕ) → IsMeeting b a → ((b ≡ n) ⊎ (a ≡ n)) → (order_of_record_meets orders deals p ≡ true) × (active_orders_meet orders deals p ≡ true)
  unfolding order_of_record_meets active_orders_meet
  meets-at b a is own =
      let meet : (on Buy b && on Sell a && nat_le (limit_at orders a) (limit_at orders b)) ≡ true = and_from _ _ (and_from _ _ is.2 is.3) (le-leb _ _ is.4) in
      let mine : ((place_at orders b == p) || (place_at orders a == p)) ≡ true = elim own [
        | inl e ↦ or_left _ _ (eq-eqb _ _ (ap (place_at orders) e))
        | inr e ↦ or_right (place_at orders b == p) _ (eq-eqb _ _ (ap (place_at orders) e))
      ] in (
        any-at (λ b. any_below (λ a. on Buy b && on Sell a && nat_le (limit_at orders a) (limit_at orders b) && ((place_at orders b == p) || (place_at orders a == p))) (length orders)) (length orders) b is.0
            (any-at (λ a. on Buy b && on Sell a && nat_le (limit_at orders a) (limit_at orders b) && ((place_at orders b == p) || (place_at orders a == p))) (length orders) a is.1 (and_from _ _ meet mine)),
        any-at (λ b. any_below (λ a. on Buy b && on Sell a && nat_le (limit_at orders a) (limit_at orders b)) (length orders)) (length orders) b is.0
            (any-at (λ a. on Buy b && on Sell a && nat_le (limit_at orders a) (limit_at orders b)) (length orders) a is.1 meet),
      )

  meets-none : ((b a : ℕ) → IsMeeting b a → ((b ≡ n) ⊎ (a ≡ n)) → ⊥) → crossing_finding orders deals p ≡ None
  unfolding order_of_record_meets
  meets-none never = cond-false (order_of_record_meets orders deals p) (spread_finding orders deals p) None
      (any-none (λ b. any_below (λ a. on Buy b && on Sell a && nat_le (limit_at orders a) (limit_at orders b) && ((place_at orders b == p) || (place_at orders a == p))) (length orders)) (length orders) (λ b hb.
      any-none (λ a. on Buy b && on Sell a && nat_le (limit_at orders a) (limit_at orders b) && ((place_at orders b == p) || (place_at orders a == p))) (length orders) (λ a ha.
      false_from_ne_true _ (λ t.
      let outer = and_parts (on Buy b && on Sell a && nat_le (limit_at orders a) (limit_at orders b)) ((place_at orders b == p) || (place_at orders a == p)) t in
      let meet = and_parts (on Buy b && on Sell a) (nat_le (limit_at orders a) (limit_at orders b)) outer.0 in
      let both = and_parts (on Buy b) (on Sell a) meet.0 in
      never b a (hb, ha, both.0, both.1, leb-true _ _ meet.1) (elim (or_cases (place_at orders b == p) (place_at orders a == p) outer.1) [
        | inl e ↦ inl (same_place orders list b n hb n_inside (eqb-true _ _ e))
        | inr e ↦ inr (same_place orders list a n ha n_inside (eqb-true _ _ e))
      ])))))

  abbrev shown : ℕ → ℕ
  shown = traded_shown_after orders deals p

  -- what is told where they meet
  meets-found : (b a x y : ℕ) → IsMeeting b a → ((b ≡ n) ⊎ (a ≡ n)) → best_order orders (on Buy) ≡ Some x → best_order orders (on Sell) ≡ Some y
      → crossing_finding orders deals p ≡ Some (finding_at_record property.Spread which.Orders p (show_order orders shown x) (show_order orders shown y))
  unfolding spread_finding
  meets-found b a x y is own bid ask =
      let both = meets-at b a is own in
      cond-true (order_of_record_meets orders deals p) (spread_finding orders deals p) None both.0
      ∙ cond-true (active_orders_meet orders deals p) (Some (finding_at_record property.Spread which.Orders p (show_if_found orders shown (best_order orders (on Buy))) (show_if_found orders shown (best_order orders (on Sell))))) None both.1
      ∙ (λ i. Some (finding_at_record property.Spread which.Orders p (show_if_found orders shown (bid i)) (show_if_found orders shown (ask i))))

  -- an order that is not active after its own record meets none
  pub none-stands : stands ≡ false → crossing_finding orders deals p ≡ None
  none-stands off = meets-none (λ b a is own. elim own [
    | inl e ↦ both_ways _ off (active-own (subst (λ (k : ℕ). act k ≡ true) e (on-parts Buy b is.2).1))
    | inr e ↦ both_ways _ off (active-own (subst (λ (k : ℕ). act k ≡ true) e (on-parts Sell a is.3).1))
  ])

  apart-sides : Buy ≢ Sell
  apart-sides e = cc

  -- of an active bid
  module _ (t : stands ≡ true) (buys : side_at orders n ≡ Buy) where
    own-bid : on Buy n ≡ true
    own-bid = parts-on Buy n buys (own-active t)

    not-ask : (a : ℕ) → on Sell a ≡ true → a ≢ n
    not-ask a u e = apart-sides (sym buys ∙ ap (side_at orders) (sym e) ∙ (on-parts Sell a u).0)

    meets-bid : (b a : ℕ) → IsMeeting b a → ((b ≡ n) ⊎ (a ≡ n)) → limit_at orders a ≤ limit_at orders n
    meets-bid b a is (inl e) = subst (λ (k : ℕ). limit_at orders a ≤ limit_at orders k) e is.4
    meets-bid b a is (inr e) = absurd (not-ask a is.3 e)

    pub bid-alone : best_order orders (test Sell) ≡ None → crossing_finding orders deals p ≡ None
    bid-alone none = meets-none (λ b a is own.
        let found = best-exists orders (test Sell) a is.1 (on-test Sell a is.1 (not-ask a is.3) is.3) in
        none-found (best_order orders (test Sell)) found.0 none found.1)
      where
        none-found : (o : Option ℕ) (x : ℕ) → o ≡ None → o ≡ Some x → ⊥
        none-found None x a b = cc
        none-found (Some y) x a b = cc

    module _ (best : ℕ) (e : best_order orders (test Sell) ≡ Some best) where
      is-ask : IsBest orders (test Sell) best
      is-ask = best-is orders (test Sell) best e

      pub bid-apart : nat_le (limit_at orders best) (limit_at orders n) ≡ false → crossing_finding orders deals p ≡ None
      bid-apart off = meets-none (λ b a is own.
          let le = meets-bid b a is own in
          let passes = on-test Sell a is.1 (not-ask a is.3) is.3 in
          let no_worse : limit_at orders best ≤ limit_at orders a = elim (cases_eq a best) [
            | inl f ↦ let same = ap (limit_at orders) f in omega arith
            | inr ne ↦ elim (Better-total orders list a best is.1 is-ask.inside ((test-parts Sell a passes).1 ∙ sym (test-parts Sell best is-ask.passes).1) ne) [
              | inl up ↦ absurd (is-ask.none_better a is.1 passes up)
              | inr down ↦
                  let over : outranks Sell (order_at orders best) (order_at orders a) ≡ true = subst (λ (s : Side). outranks s (order_at orders best) (order_at orders a) ≡ true) (test-parts Sell best is-ask.passes).1 (better-outranks (order_at orders best) (order_at orders a) down) in
                  elim (ask-outranks (order_at orders best) (order_at orders a) over) [ inl l ↦ omega arith | inr l ↦ let same = l.0 in omega arith ]
            ]
          ] in
          both_ways _ off (le-leb _ _ (omega arith)))

      pub bid-meets : nat_le (limit_at orders best) (limit_at orders n) ≡ true → (same : Option ℕ) → same ≡ best_order orders (test Buy)
          → crossing_finding orders deals p ≡ Some (finding_at_record property.Spread which.Orders p (show_order orders shown (best_of_side orders n same)) (show_order orders shown best))
      bid-meets on_ same same_is = meets-found n best (best_of_side orders n same) best (n_inside, is-ask.inside, own-bid, test-on Sell best is-ask.passes, leb-true _ _ on_) (inl refl)
          (sym (λ i. best_order orders (on (buys i))) ∙ best-own t same (same_is ∙ sym (λ i. best_order orders (test (buys i)))))
          (best-other Sell (λ f. apart-sides (sym buys ∙ f)) best e)

  -- of an active ask
  module _ (t : stands ≡ true) (sells : side_at orders n ≡ Sell) where
    own-ask : on Sell n ≡ true
    own-ask = parts-on Sell n sells (own-active t)

    not-bid : (b : ℕ) → on Buy b ≡ true → b ≢ n
    not-bid b u e = apart-sides (sym (on-parts Buy b u).0 ∙ ap (side_at orders) e ∙ sells)

    meets-ask : (b a : ℕ) → IsMeeting b a → ((b ≡ n) ⊎ (a ≡ n)) → limit_at orders n ≤ limit_at orders b
    meets-ask b a is (inr e) = subst (λ (k : ℕ). limit_at orders k ≤ limit_at orders b) e is.4
    meets-ask b a is (inl e) = absurd (not-bid b is.2 e)

    pub ask-alone : best_order orders (test Buy) ≡ None → crossing_finding orders deals p ≡ None
    ask-alone none = meets-none (λ b a is own.
        let found = best-exists orders (test Buy) b is.0 (on-test Buy b is.0 (not-bid b is.2) is.2) in
        none-found (best_order orders (test Buy)) found.0 none found.1)
      where
        none-found : (o : Option ℕ) (x : ℕ) → o ≡ None → o ≡ Some x → ⊥
        none-found None x a b = cc
        none-found (Some y) x a b = cc

    module _ (best : ℕ) (e : best_order orders (test Buy) ≡ Some best) where
      is-bid : IsBest orders (test Buy) best
      is-bid = best-is orders (test Buy) best e

      pub ask-apart : nat_le (limit_at orders n) (limit_at orders best) ≡ false → crossing_finding orders deals p ≡ None
      ask-apart off = meets-none (λ b a is own.
          let le = meets-ask b a is own in
          let passes = on-test Buy b is.0 (not-bid b is.2) is.2 in
          let no_worse : limit_at orders b ≤ limit_at orders best = elim (cases_eq b best) [
            | inl f ↦ let same = ap (limit_at orders) f in omega arith
            | inr ne ↦ elim (Better-total orders list b best is.0 is-bid.inside ((test-parts Buy b passes).1 ∙ sym (test-parts Buy best is-bid.passes).1) ne) [
              | inl up ↦ absurd (is-bid.none_better b is.0 passes up)
              | inr down ↦
                  let over : outranks Buy (order_at orders best) (order_at orders b) ≡ true = subst (λ (s : Side). outranks s (order_at orders best) (order_at orders b) ≡ true) (test-parts Buy best is-bid.passes).1 (better-outranks (order_at orders best) (order_at orders b) down) in
                  elim (bid-outranks (order_at orders best) (order_at orders b) over) [ inl l ↦ omega arith | inr l ↦ let same = l.0 in omega arith ]
            ]
          ] in
          both_ways _ off (le-leb _ _ (omega arith)))

      pub ask-meets : nat_le (limit_at orders n) (limit_at orders best) ≡ true → (same : Option ℕ) → same ≡ best_order orders (test Sell)
          → crossing_finding orders deals p ≡ Some (finding_at_record property.Spread which.Orders p (show_order orders shown best) (show_order orders shown (best_of_side orders n same)))
      ask-meets on_ same same_is = meets-found best n best (best_of_side orders n same) (is-bid.inside, n_inside, test-on Buy best is-bid.passes, own-ask, leb-true _ _ on_) (inr refl)
          (best-other Buy (λ f. apart-sides (sym f ∙ sells)) best e)
          (sym (λ i. best_order orders (on (sells i))) ∙ best-own t same (same_is ∙ sym (λ i. best_order orders (test (sells i)))))
