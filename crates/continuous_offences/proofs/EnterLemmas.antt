-- Books at a later place, and with one order more.
use Rattle.std.proofs.Common.{◌≡◌, ◌≢◌, ◌<◌, ◌≤◌, ◌-◌, ℕ, zero, suc, List, [], ◌∷◌, true, false, Option, None, Some, refl, sym, ap, ◌∙◌, arith, inl, inr, subst, All}
use Rattle.std.specs.Prelude.{◌&&◌, nat_lt}
use Rattle.std.proofs.lemmas.Bool.{cases_Bool, cases_eq, and_from, and_parts, both_ways, leb-true, le-leb, lt-ltb, ltb-true}
use Rattle.std.proofs.lemmas.List.Elements.{All-nil, All-cons, All-head, All-tail, All-weaker}
use Rattle.audit_base.specs.declared.orders.Order.{Order}
use Rattle.audit_base.specs.declared.orders.Deal.{Deal}
use Rattle.audit_base.specs.declared.terms.Side.{Side}
use Rattle.audit_base.specs.declared.terms.Side.TheVariants.{Buy, Sell}
use Rattle.audit_base.specs.Continuous.{size_of_order, traded_before, uncancelled_before}
use Rattle.audit_base.specs.Orders.{limit_at, may_rest, order_at, side_at}
use Rattle.audit_base.specs.Priority.{better_limit}
use Rattle.audit_base.proofs.ContinuousOffenceLemmas.{traded-more}
use Rattle.audit_base.proofs.SumLemmas.{Contains-behind, Contains-cases, Contains-front}
use Rattle.order_book.specs.Books.{BookSide, with_order}
use Rattle.order_book.specs.declared.books.Resting.{Resting}
use Rattle.continuous_offences.specs.declared.books.RestingBooks.{RestingBooks}
use Rattle.continuous_offences.specs.Books.{AreBooksOf, HasOrder, IsBookOf, IsInBook, waits}

-- Lists with one order more.

module _ (side : Side) (r : Resting) where
  with-all : (P : Resting → Type 0) (xs : List Resting) → P r → All P xs → All P (with_order side r xs)
  with-all P [] h all = All-cons P r [] h all
  with-all P (x ∷ xs) h all = elim (cases_Bool (better_limit side r.limit x.limit)) [
    | inl t ↦ rw t (All-cons P r (x ∷ xs) h all)
    | inr f ↦ rw f (All-cons P x (with_order side r xs) (All-head P x xs all) (with-all P xs h (All-tail P x xs all)))
  ]

  with-has : (order : ℕ) (xs : List Resting) → HasOrder xs order → HasOrder (with_order side r xs) order
  with-has order [] has = let none = has.1.1 in absurd (omega arith)
  with-has order (x ∷ xs) has = elim (cases_Bool (better_limit side r.limit x.limit)) [
    | inl t ↦ rw t (has.0, Contains-behind r (x ∷ xs) has.0 has.1, has.2)
    | inr f ↦ rw f (elim (Contains-cases x xs has.0 has.1) [
      | inl e ↦ (x, Contains-front x (with_order side r xs), ap (λ (y : Resting). y.index) e ∙ has.2)
      | inr c ↦ let rest = with-has order xs (has.0, c, has.2) in (rest.0, Contains-behind x (with_order side r xs) rest.0 rest.1, rest.2)
    ])
  ]

  with-own : (xs : List Resting) → HasOrder (with_order side r xs) r.index
  with-own [] = (r, Contains-front r [], refl)
  with-own (x ∷ xs) = elim (cases_Bool (better_limit side r.limit x.limit)) [
    | inl t ↦ rw t (r, Contains-front r (x ∷ xs), refl)
    | inr f ↦ rw f (let rest = with-own xs in (rest.0, Contains-behind x (with_order side r xs) rest.0 rest.1, rest.2))
  ]

uncancelled-earlier : (c : Option ℕ) (p q : ℕ) → p ≤ q → uncancelled_before c q ≡ true → uncancelled_before c p ≡ true
uncancelled-earlier None p q le e = refl
uncancelled-earlier (Some c) p q le e = let l = leb-true q c e in le-leb p c (omega arith)

module _ (orders : List Order) (deals : List Deal) where
  pub traded-grows : (x p q : ℕ) → p ≤ q → traded_before orders deals p x ≤ traded_before orders deals q x
  traded-grows x p zero le = let e : p ≡ 0 = omega arith in rw e (omega arith)
  traded-grows x p (suc q) le = elim (cases_eq p (suc q)) [
    | inl e ↦ rw e (omega arith)
    | inr ne ↦ let rest = traded-grows x p q (omega (arith, ne)) in let more = traded-more orders deals q x in omega arith
  ]

  -- an order that rests later rests before
  pub waits-earlier : (place place' next next' x : ℕ) → place ≤ place' → next ≤ next' → waits orders deals place' next' x ≡ true → waits orders deals place next x ≡ true
  waits-earlier place place' next next' x le le' t =
      let o = order_at orders x in
      let one = and_parts (may_rest o.life) (uncancelled_before o.cancelled place' && nat_lt (traded_before orders deals next' x) (size_of_order orders deals x)) t in
      let two = and_parts (uncancelled_before o.cancelled place') (nat_lt (traded_before orders deals next' x) (size_of_order orders deals x)) one.1 in
      let fewer = ltb-true _ _ two.1 in
      let grows = traded-grows x next next' le' in
      and_from _ _ one.0 (and_from _ _ (uncancelled-earlier o.cancelled place place' le two.0) (lt-ltb _ _ (omega arith)))

  -- something is left of an order that rests
  pub waits-left : (place next x : ℕ) → waits orders deals place next x ≡ true → 0 < size_of_order orders deals x - traded_before orders deals next x
  waits-left place next x t =
      let o = order_at orders x in
      let one = and_parts (may_rest o.life) (uncancelled_before o.cancelled place && nat_lt (traded_before orders deals next x) (size_of_order orders deals x)) t in
      let two = and_parts (uncancelled_before o.cancelled place) (nat_lt (traded_before orders deals next x) (size_of_order orders deals x)) one.1 in
      let fewer = ltb-true _ _ two.1 in
      omega arith

  -- before the first order
  book-none : (side : Side) (place next : ℕ) (xs : List Resting) → xs ≡ [] → IsBookOf orders deals side 0 place next xs
  book-none side place next xs e = subst (IsBookOf orders deals side 0 place next) (sym e) (record {
    only = All-nil (IsInBook orders side 0);
    each = λ x lt of t. absurd (omega arith);
  })

  pub books-none : (place next : ℕ) (b : RestingBooks) → b.bids ≡ record { side = Buy; resting = [] } → b.asks ≡ record { side = Sell; resting = [] } → AreBooksOf orders deals 0 place next b
  books-none place next b bids asks = record {
    bid_side = ap (λ (s : BookSide). s.side) bids;
    ask_side = ap (λ (s : BookSide). s.side) asks;
    bids = book-none Buy place next b.bids.resting (ap (λ (s : BookSide). s.resting) bids);
    asks = book-none Sell place next b.asks.resting (ap (λ (s : BookSide). s.resting) asks);
  }

  book-later : (side : Side) (count place place' next next' : ℕ) (xs : List Resting) → place ≤ place' → next ≤ next' → IsBookOf orders deals side count place next xs → IsBookOf orders deals side count place' next' xs
  book-later side count place place' next next' xs le le' is = record {
    only = is.only;
    each = λ x lt of t. is.each x lt of (waits-earlier place place' next next' x le le' t);
  }

  pub books-later : (count place place' next next' : ℕ) (b : RestingBooks) → place ≤ place' → next ≤ next' → AreBooksOf orders deals count place next b → AreBooksOf orders deals count place' next' b
  books-later count place place' next next' b le le' are = record {
    bid_side = are.bid_side;
    ask_side = are.ask_side;
    bids = book-later Buy count place place' next next' b.bids.resting le le' are.bids;
    asks = book-later Sell count place place' next next' b.asks.resting le le' are.asks;
  }

  -- One order more.
  module _ (n place next : ℕ) where
    longer : (side : Side) (xs : List Resting) → All (IsInBook orders side n) xs → All (IsInBook orders side (suc n)) xs
    longer side xs = All-weaker (IsInBook orders side n) (IsInBook orders side (suc n)) (λ r is. record { inside = let i = is.inside in omega arith; of_side = is.of_side; limit = is.limit }) xs

    -- which does not rest on this side
    skipped : (side : Side) (xs : List Resting) → (side_at orders n ≡ side → waits orders deals place next n ≡ true → ⊥) → IsBookOf orders deals side n place next xs → IsBookOf orders deals side (suc n) place next xs
    skipped side xs never is = record {
      only = longer side xs is.only;
      each = λ x lt of t. elim (cases_eq x n) [
        | inl e ↦ absurd (never (ap (side_at orders) (sym e) ∙ of) (ap (waits orders deals place next) (sym e) ∙ t))
        | inr ne ↦ is.each x (omega (arith, ne)) of t
      ];
    }

    -- which is added
    added : (side : Side) (xs : List Resting) (r : Resting) → r.index ≡ n → r.limit ≡ limit_at orders n → side_at orders n ≡ side → IsBookOf orders deals side n place next xs → IsBookOf orders deals side (suc n) place next (with_order side r xs)
    added side xs r i l of is = record {
      only = with-all side r (IsInBook orders side (suc n)) xs (record { inside = omega arith; of_side = ap (side_at orders) i ∙ of; limit = l ∙ ap (limit_at orders) (sym i) }) (longer side xs is.only);
      each = λ x lt of' t. elim (cases_eq x n) [
        | inl e ↦ subst (HasOrder (with_order side r xs)) (i ∙ sym e) (with-own side r xs)
        | inr ne ↦ with-has side r x xs (is.each x (omega (arith, ne)) of' t)
      ];
    }

    other-side : Buy ≢ Sell
    other-side e = cc

    pub books-skipped : (b : RestingBooks) → waits orders deals place next n ≡ false → AreBooksOf orders deals n place next b → AreBooksOf orders deals (suc n) place next b
    books-skipped b off are = record {
      bid_side = are.bid_side;
      ask_side = are.ask_side;
      bids = skipped Buy b.bids.resting (λ e t. both_ways _ off t) are.bids;
      asks = skipped Sell b.asks.resting (λ e t. both_ways _ off t) are.asks;
    }

    pub books-bid : (b c : RestingBooks) (r : Resting) → r.index ≡ n → r.limit ≡ limit_at orders n → side_at orders n ≡ Buy → c.bids ≡ record b.bids { resting = with_order b.bids.side r b.bids.resting } → c.asks ≡ b.asks → AreBooksOf orders deals n place next b → AreBooksOf orders deals (suc n) place next c
    books-bid b c r i l of bids asks are = record {
      bid_side = ap (λ (s : BookSide). s.side) bids ∙ are.bid_side;
      ask_side = ap (λ (s : BookSide). s.side) asks ∙ are.ask_side;
      bids = subst (IsBookOf orders deals Buy (suc n) place next) (sym (ap (λ (s : BookSide). s.resting) bids ∙ ap (λ (s : Side). with_order s r b.bids.resting) are.bid_side)) (added Buy b.bids.resting r i l of are.bids);
      asks = subst (IsBookOf orders deals Sell (suc n) place next) (sym (ap (λ (s : BookSide). s.resting) asks)) (skipped Sell b.asks.resting (λ e t. other-side (sym of ∙ e)) are.asks);
    }

    pub books-ask : (b c : RestingBooks) (r : Resting) → r.index ≡ n → r.limit ≡ limit_at orders n → side_at orders n ≡ Sell → c.asks ≡ record b.asks { resting = with_order b.asks.side r b.asks.resting } → c.bids ≡ b.bids → AreBooksOf orders deals n place next b → AreBooksOf orders deals (suc n) place next c
    books-ask b c r i l of asks bids are = record {
      bid_side = ap (λ (s : BookSide). s.side) bids ∙ are.bid_side;
      ask_side = ap (λ (s : BookSide). s.side) asks ∙ are.ask_side;
      bids = subst (IsBookOf orders deals Buy (suc n) place next) (sym (ap (λ (s : BookSide). s.resting) bids)) (skipped Buy b.bids.resting (λ e t. other-side (sym e ∙ of)) are.bids);
      asks = subst (IsBookOf orders deals Sell (suc n) place next) (sym (ap (λ (s : BookSide). s.resting) asks ∙ ap (λ (s : Side). with_order s r b.asks.resting) are.ask_side)) (added Sell b.asks.resting r i l of are.asks);
    }
