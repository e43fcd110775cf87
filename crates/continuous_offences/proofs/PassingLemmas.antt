-- A deal passes over an order that waits exactly where the best order that waits is better than its resting order.
use Rattle.std.proofs.Common.{◌≡◌, ◌<◌, ℕ, suc, List, length, Bool, true, false, Option, None, Some, sym, ap, ◌∙◌, arith, inl, inr, subst}
use Rattle.std.specs.Prelude.{◌&&◌, ◌==◌, nat_lt}
use Rattle.std.proofs.lemmas.Bool.{cases_Bool, cases_eq, and_from, and_parts, and_right, both_ways, cond-true, cond-false, eq-eqb, false_from_ne_true, lt-ltb, ltb-true}
use Rattle.audit_base.specs.declared.orders.Order.{Order}
use Rattle.audit_base.specs.declared.orders.Deal.{Deal}
use Rattle.audit_base.specs.declared.terms.Side.{Side}
use Rattle.audit_base.specs.Continuous.{cause, left_after, rests_before_in_ledger, resting_order, size_in_ledger, size_of_order, traded_before, uncancelled_before}
use Rattle.audit_base.specs.ContinuousOffences.{resting_priority_finding, traded_shown_after, waits_ahead}
use Rattle.audit_base.specs.Deals.{deal_at}
use Rattle.audit_base.specs.Least.{any_below, only_if}
use Rattle.audit_base.specs.Orders.{may_rest, order_at, place_at, same_side, side_at, IsOrderList}
use Rattle.audit_base.specs.Priority.{best_order, better, Better}
use Rattle.audit_base.specs.Shows.{finding_at_trade, priority_property, show_if_found, show_order}
use Rattle.audit_base.proofs.ContinuousOffenceLemmas.{traded-more}
use Rattle.audit_base.proofs.LeastLemmas.{any-at, any-none}
use Rattle.audit_base.proofs.OffenceLemmas.{none-only}
use Rattle.audit_base.proofs.OrderLemmas.{is-same_side, place-rises, same_side-is}
use Rattle.audit_base.proofs.PriorityLemmas.{IsBest, best-exists, best-is, better-side, is-best, Better-onward, Better-total}
use Rattle.continuous_audit.proofs.FlawLemmas.{upto-n}
use Rattle.continuous_offences.specs.Books.{waits, waits_on}

module _ (orders : List Order) (list : IsOrderList orders) (deals : List Deal) (n : ℕ) (n_inside : n < length orders) (side : Side) where
  abbrev p : ℕ
  p = place_at orders n

  abbrev past : ℕ → ℕ → ℕ
  past = traded_before orders deals

  abbrev test : ℕ → Bool
  test = waits_on orders deals side n p (suc p)

  pub test-side : (x : ℕ) → x < length orders → test x ≡ true → side_at orders x ≡ side
  test-side x lt t =
      let parts = and_parts (nat_lt x n) (same_side side (side_at orders x) && waits orders deals p (suc p) x) t in
      same_side-is side (side_at orders x) ((and_parts (same_side side (side_at orders x)) (waits orders deals p (suc p) x) parts.1).0)

  module _ (r : ℕ) (of_side : side_at orders r ≡ side) where
    -- an order that waits ahead of the resting order is one of those that the book gives, and better
    ahead-parts : (x : ℕ) → x < length orders → waits_ahead orders deals p r x ≡ true → (test x ≡ true) × Better orders x r
    unfolding rests_before_in_ledger size_in_ledger
    ahead-parts x lt t =
        let o = order_at orders x in
        let outer = and_parts (rests_before_in_ledger orders past p x && nat_lt 0 (left_after orders deals p x)) (better o (order_at orders r)) t in
        let both = and_parts (rests_before_in_ledger orders past p x) (nat_lt 0 (left_after orders deals p x)) outer.0 in
        let rest = and_parts (may_rest o.life && nat_lt (place_at orders x) p) (uncancelled_before o.cancelled p && nat_lt (past p x) (size_of_order orders deals x)) both.0 in
        let front = and_parts (may_rest o.life) (nat_lt (place_at orders x) p) rest.0 in
        let behind = and_parts (uncancelled_before o.cancelled p) (nat_lt (past p x) (size_of_order orders deals x)) rest.1 in
        let left = ltb-true 0 (left_after orders deals p x) both.1 in
        let earlier = ltb-true (place_at orders x) p front.1 in
        let below : x < n = elim (cases_eq x n) [
          | inl e ↦ let same : place_at orders x ≡ p = ap (place_at orders) e in absurd (omega arith)
          | inr ne ↦ let le = upto-n orders list n n_inside x lt (omega arith) in omega (arith, ne)
        ] in
        let fewer : past (suc p) x < size_of_order orders deals x = omega arith in
        let on_side : same_side side (side_at orders x) ≡ true = is-same_side side (side_at orders x) (sym of_side ∙ better-side o (order_at orders r) outer.1) in
        (and_from _ _ (lt-ltb _ _ below) (and_from _ _ on_side (and_from _ _ front.0 (and_from _ _ behind.0 (lt-ltb _ _ fewer)))), outer.1)

    parts-ahead : (x : ℕ) → x < length orders → test x ≡ true → Better orders x r → waits_ahead orders deals p r x ≡ true
    unfolding rests_before_in_ledger size_in_ledger
    parts-ahead x lt t over =
        let o = order_at orders x in
        let outer = and_parts (nat_lt x n) (same_side side (side_at orders x) && waits orders deals p (suc p) x) t in
        let inner = and_parts (same_side side (side_at orders x)) (waits orders deals p (suc p) x) outer.1 in
        let one = and_parts (may_rest o.life) (uncancelled_before o.cancelled p && nat_lt (past (suc p) x) (size_of_order orders deals x)) inner.1 in
        let two = and_parts (uncancelled_before o.cancelled p) (nat_lt (past (suc p) x) (size_of_order orders deals x)) one.1 in
        let below = ltb-true x n outer.0 in
        let fewer = ltb-true (past (suc p) x) (size_of_order orders deals x) two.1 in
        let grows = traded-more orders deals p x in
        let earlier = place-rises orders list x n below n_inside in
        let left : 0 < left_after orders deals p x = omega arith in
        and_from _ _ (and_from _ _ (and_from _ _ (and_from _ _ one.0 (lt-ltb _ _ earlier)) (and_from _ _ two.0 (lt-ltb _ _ (omega arith)))) (lt-ltb _ _ left)) over

    -- where none waits, none is passed over
    pub none-ahead : best_order orders test ≡ None → any_below (waits_ahead orders deals p r) (length orders) ≡ false
    none-ahead none = any-none (waits_ahead orders deals p r) (length orders) (λ x lt. false_from_ne_true _ (λ t.
        let found = best-exists orders test x lt (ahead-parts x lt t).0 in
        absurd (none_some' (best_order orders test) found.0 none found.1)))
      where
        none_some' : (o : Option ℕ) (x : ℕ) → o ≡ None → o ≡ Some x → ⊥
        none_some' None x a b = cc
        none_some' (Some y) x a b = cc

    module _ (best : ℕ) (is : best_order orders test ≡ Some best) where
      pub best-here : IsBest orders test best
      best-here = best-is orders test best is

      pub clear-ahead : better (order_at orders best) (order_at orders r) ≡ false → any_below (waits_ahead orders deals p r) (length orders) ≡ false
      clear-ahead off = any-none (waits_ahead orders deals p r) (length orders) (λ x lt. false_from_ne_true _ (λ t.
          let parts = ahead-parts x lt t in
          elim (cases_eq x best) [
            | inl e ↦ both_ways _ off (subst (λ (k : ℕ). Better orders k r) e parts.1)
            | inr ne ↦ elim (Better-total orders list x best lt best-here.inside (test-side x lt parts.0 ∙ sym (test-side best best-here.inside best-here.passes)) ne) [
              | inl over ↦ best-here.none_better x lt parts.0 over
              | inr under ↦ both_ways _ off (Better-onward orders best x r under parts.1)
            ]
          ]))

      pub best-ahead : better (order_at orders best) (order_at orders r) ≡ true → (any_below (waits_ahead orders deals p r) (length orders) ≡ true) × (best_order orders (waits_ahead orders deals p r) ≡ Some best)
      best-ahead over =
          let passes = parts-ahead best best-here.inside best-here.passes over in (
            any-at (waits_ahead orders deals p r) (length orders) best best-here.inside passes,
            is-best orders list (waits_ahead orders deals p r) side (λ x lt t. test-side x lt (ahead-parts x lt t).0) best (record {
              inside = best-here.inside;
              passes = passes;
              none_better = λ x lt t. best-here.none_better x lt (ahead-parts x lt t).0;
            }),
          )

  -- the finding at a deal of this cause
  module _ (j : ℕ) (here : cause orders (deal_at deals j) ≡ p) (of_side : side_at orders (resting_order orders (deal_at deals j)) ≡ side) where
    abbrev d : Deal
    d = deal_at deals j

    abbrev r' : ℕ
    r' = resting_order orders d

    abbrev shown : ℕ → ℕ
    shown = traded_shown_after orders deals p

    abbrev over : Bool
    over = any_below (waits_ahead orders deals p r') (length orders)

    pub priority-none : best_order orders test ≡ None → resting_priority_finding orders deals p j ≡ None
    unfolding resting_priority_finding
    priority-none none = none-only _ _ (and_right (cause orders d == p) over (none-ahead r' of_side none))

    pub priority-is : (best : ℕ) → best_order orders test ≡ Some best
        → resting_priority_finding orders deals p j ≡ only_if (better (order_at orders best) (order_at orders r')) (finding_at_trade (priority_property (side_at orders r')) d (show_order orders shown best) (show_order orders shown r'))
    unfolding resting_priority_finding
    priority-is best is = elim (cases_Bool (better (order_at orders best) (order_at orders r'))) [
      | inl on ↦
          let both = best-ahead r' of_side best is on in
          cond-true ((cause orders d == p) && over) (Some (finding_at_trade (priority_property (side_at orders r')) d (show_if_found orders shown (best_order orders (waits_ahead orders deals p r'))) (show_order orders shown r'))) None (and_from _ _ (eq-eqb _ _ here) both.0)
          ∙ ap (λ (o : Option ℕ). Some (finding_at_trade (priority_property (side_at orders r')) d (show_if_found orders shown o) (show_order orders shown r'))) both.1
          ∙ sym (cond-true (better (order_at orders best) (order_at orders r')) (Some (finding_at_trade (priority_property (side_at orders r')) d (show_order orders shown best) (show_order orders shown r'))) None on)
      | inr off ↦
          none-only _ _ (and_right (cause orders d == p) over (clear-ahead r' of_side best is off))
          ∙ sym (cond-false (better (order_at orders best) (order_at orders r')) (Some (finding_at_trade (priority_property (side_at orders r')) d (show_order orders shown best) (show_order orders shown r'))) None off)
    ]
