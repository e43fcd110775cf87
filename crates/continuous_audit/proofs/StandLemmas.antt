-- What the code reads of the order of a record: whether it meets the best of the other side,
-- and whether it rests.
use Rattle.std.proofs.Common.{◌≡◌, ◌<◌, ℕ, suc, List, [], ◌∷◌, length, Bool, true, false, cond, Option, Some, None, refl, sym, ap, ◌∙◌, arith, inl, inr, subst, All}
use Rattle.std.specs.Prelude.{nat_lt, ◌==◌, ◌&&◌}
use Rattle.std.proofs.lemmas.Bool.{cases_Bool, and_parts, and_right, ltb-true, ne_eqb, cond-true, cond-false}
use Rattle.std.proofs.lemmas.List.Elements.{All-head}
use Rattle.audit_base.specs.declared.terms.Side.{Side}
use Rattle.audit_base.specs.declared.terms.Side.TheVariants.{Buy, Sell}
use Rattle.audit_base.specs.declared.terms.Which.TheVariants as which
use Rattle.audit_base.specs.declared.findings.Property.TheVariants as property
use Rattle.audit_base.specs.declared.orders.Order.{Order}
use Rattle.audit_base.specs.declared.orders.Deal.{Deal}
use Rattle.audit_base.specs.Orders.{order_at, side_at, limit_at, place_at, other_side, may_rest, IsOrderList}
use Rattle.audit_base.specs.Deals.{NamesOrders}
use Rattle.audit_base.specs.Expected.{limits_meet}
use Rattle.audit_base.specs.Continuous.{traded_before, uncancelled_before, left_after}
use Rattle.audit_base.specs.ContinuousOffences.{spread_finding, traded_shown_after}
use Rattle.audit_base.specs.Flaws.{finding_of}
use Rattle.audit_base.specs.Shows.{finding_at_record, show_if_found}
use Rattle.audit_base.proofs.LeastLemmas.{none_some}
use Rattle.audit_base.proofs.OrderLemmas.{side-other}
use Rattle.order_book.specs.declared.books.Resting.{Resting}
use Rattle.order_book.specs.Books.{best_resting}
use Rattle.continuous_audit.specs.declared.books.Books.{Books}
use Rattle.continuous_audit.specs.Books.{AreBooksOfAmounts, AreBooksBelow, books_with_order, book_list, resting_left_without_own}
use Rattle.continuous_audit.specs.Holding.{IsListOfAmounts, IsUncrossedBefore, ask_of_two, bid_of_two, is_active_after_own, meets_first, resting_left_before}
use Rattle.continuous_audit.specs.Flaws.{spread_flaw_after, spread_evidence, order_with_shown}
use Rattle.continuous_audit.specs.Spreads.{is_active_after_with, rests_after_with}
use Rattle.continuous_audit.proofs.HoldLemmas.{hold-same}
use Rattle.continuous_audit.proofs.BooksLemmas.{side-holds, after-entry, no-entry}
use Rattle.continuous_audit.proofs.RecordLemmas.{resting_left-own}
use Rattle.continuous_audit.proofs.SpreadLemmas.{spread-shown, spread-clear, apart-after}

module _ (orders : List Order) (list : IsOrderList orders) (deals : List Deal) (n : ℕ) (n_inside : n < length orders) (b : Books) (hold : AreBooksOfAmounts orders (resting_left_without_own orders deals n) b) where
  abbrev p : ℕ
  p = place_at orders n

  abbrev past : ℕ → ℕ → ℕ
  past = traded_before orders deals

  abbrev s : Side
  s = side_at orders n

  abbrev ys : List Resting
  ys = book_list (other_side s) b

  other-holds : IsListOfAmounts orders (other_side s) (resting_left_before orders past (suc p)) ys
  other-holds = hold-same orders (other_side s) (resting_left_without_own orders deals n) (resting_left_before orders past (suc p)) ys
      (λ k lt of. sym (cond-false (k == n) 0 (resting_left_before orders past (suc p) k) (ne_eqb k n (λ e. side-other s (sym (ap (side_at orders) e) ∙ of)))))
      (side-holds orders (resting_left_without_own orders deals n) (other_side s) b hold)

  module _ (apart : IsUncrossedBefore orders past p) where
    clear-test : (is_active_after_own orders past n && meets_first s (limit_at orders n) (best_resting ys)) ≡ false → spread_finding orders deals p ≡ None
    clear-test f = spread-clear orders list deals p n n_inside refl apart s refl ys other-holds f

    found-head : (h : Resting) (zs : List Resting) → ys ≡ h ∷ zs → is_active_after_own orders past n ≡ true → limits_meet s (limit_at orders n) h.limit ≡ true
        → spread_finding orders deals p ≡ Some (finding_at_record property.Spread which.Orders p (show_if_found orders (traded_shown_after orders deals p) (Some (bid_of_two s n h.index))) (show_if_found orders (traded_shown_after orders deals p) (Some (ask_of_two s n h.index))))
    found-head h zs e t m = spread-shown orders list deals p n n_inside refl apart s refl ys other-holds h zs e t m

    found-first : (zs : List Resting) (h : Resting) → ys ≡ zs → best_resting zs ≡ Some h → is_active_after_own orders past n ≡ true → limits_meet s (limit_at orders n) h.limit ≡ true
        → spread_finding orders deals p ≡ Some (finding_at_record property.Spread which.Orders p (show_if_found orders (traded_shown_after orders deals p) (Some (bid_of_two s n h.index))) (show_if_found orders (traded_shown_after orders deals p) (Some (ask_of_two s n h.index))))
    found-first [] h e f t m = absurd (cc)
    found-first (x ∷ zs) h e f t m =
        let same : h ≡ x = cc in
        found-head h zs (e ∙ ap (λ (y : Resting). y ∷ zs) (sym same)) t m

    shown-by : (t : Side) (j : ℕ) → finding_of orders (record { place = p; evidence = spread_evidence t (order_with_shown (traded_shown_after orders deals p) n) (order_with_shown (traded_shown_after orders deals p) j) })
        ≡ finding_at_record property.Spread which.Orders p (show_if_found orders (traded_shown_after orders deals p) (Some (bid_of_two t n j))) (show_if_found orders (traded_shown_after orders deals p) (Some (ask_of_two t n j)))
    shown-by Buy j = refl
    shown-by Sell j = refl

    -- where there is no finding, none meet after the record
    pub quiet-apart : spread_finding orders deals p ≡ None → IsUncrossedBefore orders past (suc p)
    quiet-apart none = elim (cases_Bool (is_active_after_own orders past n && meets_first s (limit_at orders n) (best_resting ys))) [
      | inr f ↦ apart-after orders list deals p n n_inside refl apart s refl ys other-holds f
      | inl t ↦ let parts = and_parts (is_active_after_own orders past n) (meets_first s (limit_at orders n) (best_resting ys)) t in absurd (met ys refl parts.0 parts.1)
    ]
      where
        met : (zs : List Resting) → ys ≡ zs → is_active_after_own orders past n ≡ true → meets_first s (limit_at orders n) (best_resting zs) ≡ true → ⊥
        met [] e t m = cc
        met (h ∷ zs) e t m = none_some (spread_finding orders deals p) _ none (found-head h zs e t m)

    module _ (own : Order) (own_is : own ≡ order_at orders n) (l : ℕ) (l_is : l ≡ left_after orders deals p n) where
      active-read : is_active_after_with own l ≡ is_active_after_own orders past n
      active-read = λ i. is_active_after_with (own_is i) (l_is i)

      pub none-read : (side : Side) → side ≡ other_side own.side → best_resting (book_list side b) ≡ None → spread_finding orders deals p ≡ None
      none-read side side_is e =
          let side_at_is : side ≡ other_side s = side_is ∙ ap (λ (o : Order). other_side o.side) own_is in
          let none : best_resting ys ≡ None = ap (λ (t : Side). best_resting (book_list t b)) (sym side_at_is) ∙ e in
          clear-test (and_right (is_active_after_own orders past n) (meets_first s (limit_at orders n) (best_resting ys)) (ap (meets_first s (limit_at orders n)) none))

      module _ (side : Side) (side_is : side ≡ other_side own.side) (h : Resting) (e : best_resting (book_list side b) ≡ Some h) where
        head-is : best_resting ys ≡ Some h
        head-is = ap (λ (t : Side). best_resting (book_list t b)) (sym (side_is ∙ ap (λ (o : Order). other_side o.side) own_is)) ∙ e

        test-read : (is_active_after_with own l && limits_meet own.side own.limit h.limit) ≡ (is_active_after_own orders past n && meets_first s (limit_at orders n) (best_resting ys))
        test-read = (λ i. active-read i && limits_meet (own_is i).side (own_is i).limit h.limit) ∙ ap (λ (o : Option Resting). is_active_after_own orders past n && meets_first s (limit_at orders n) o) (sym head-is)

        pub clear-read : (is_active_after_with own l && limits_meet own.side own.limit h.limit) ≡ false → spread_finding orders deals p ≡ None
        clear-read f = clear-test (sym test-read ∙ f)

        pub found-read : (is_active_after_with own l && limits_meet own.side own.limit h.limit) ≡ true → spread_finding orders deals p ≡ Some (finding_of orders (spread_flaw_after orders deals n h.index))
        found-read t =
            let parts = and_parts (is_active_after_with own l) (limits_meet own.side own.limit h.limit) t in
            let now : is_active_after_own orders past n ≡ true = sym active-read ∙ parts.0 in
            let meet : limits_meet s (limit_at orders n) h.limit ≡ true = sym (λ i. limits_meet (own_is i).side (own_is i).limit h.limit) ∙ parts.1 in
            found-first ys h refl head-is now meet ∙ sym (ap Some (shown-by s h.index))

module _ (orders : List Order) (list : IsOrderList orders) (deals : List Deal) (named : All (NamesOrders orders) deals) (n : ℕ) (n_inside : n < length orders) (b : Books) (hold : AreBooksOfAmounts orders (resting_left_without_own orders deals n) b)
    (own : Order) (own_is : own ≡ order_at orders n) (l : ℕ) (l_is : l ≡ left_after orders deals (place_at orders n) n) where
  abbrev q : ℕ
  q = suc (place_at orders n)

  stays-test : (r u : Bool) (m : ℕ) → cond (r && u) m 0 ≡ cond (r && (u && nat_lt 0 m)) m 0
  stays-test false u m = refl
  stays-test true false m = refl
  stays-test true true m = elim (cases_Bool (nat_lt 0 m)) [
    | inl t ↦ sym (cond-true (nat_lt 0 m) m 0 t)
    | inr f ↦ let z : m ≡ 0 = grind arith in z ∙ sym (cond-false (nat_lt 0 m) m 0 f)
  ]

  resting_left-read : resting_left_before orders (traded_before orders deals) q n ≡ cond (rests_after_with own l) l 0
  resting_left-read = resting_left-own orders list deals named n n_inside
      ∙ stays-test (may_rest (order_at orders n).life) (uncancelled_before (order_at orders n).cancelled q) (left_after orders deals (place_at orders n) n)
      ∙ sym (λ i. cond (rests_after_with (own_is i) (l_is i)) (l_is i) 0)

  pub entered-read : rests_after_with own l ≡ true → (b' : Books) → b' ≡ books_with_order own.side (record { index = n; limit = own.limit; left = l }) b → AreBooksOfAmounts orders (resting_left_before orders (traded_before orders deals) q) b'
  entered-read t b' made =
      let r : resting_left_before orders (traded_before orders deals) q n ≡ l = resting_left-read ∙ cond-true (rests_after_with own l) l 0 t in
      let some : 0 < l = ltb-true 0 l (and_parts (uncancelled_before own.cancelled (suc own.place)) (nat_lt 0 l) (and_parts (may_rest own.life) (is_active_after_with own l) t).1).1 in
      let is = after-entry orders list deals named n n_inside b hold (omega arith) in
      subst (AreBooksOfAmounts orders (resting_left_before orders (traded_before orders deals) q)) (sym (made ∙ (λ i. books_with_order (own_is i).side (record { index = n; limit = (own_is i).limit; left = sym r i }) b))) is

  pub absent-read : rests_after_with own l ≡ false → AreBooksOfAmounts orders (resting_left_before orders (traded_before orders deals) q) b
  absent-read f = no-entry orders list deals named n n_inside b hold (resting_left-read ∙ cond-false (rests_after_with own l) l 0 f)

earlier-first : (n : ℕ) (xs : List Resting) → All (λ (r : Resting). r.index < n) xs → (h : Resting) → best_resting xs ≡ Some h → h.index < n
earlier-first n [] all h e = absurd (cc)
earlier-first n (x ∷ xs) all h e =
    let same : x ≡ h = cc in
    subst (λ (r : Resting). r.index < n) same (All-head (λ (r : Resting). r.index < n) x xs all)

-- the first of a book comes before the order of the record
pub first-earlier : (n : ℕ) (b : Books) → AreBooksBelow n b → (side : Side) (h : Resting) → best_resting (book_list side b) ≡ Some h → h.index < n
first-earlier n b below Buy h e = earlier-first n b.bids.resting below.bids h e
first-earlier n b below Sell h e = earlier-first n b.asks.resting below.asks h e
