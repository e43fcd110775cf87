-- The orders that rest right before a record, and the first of them.
use Rattle.std.proofs.Common.{◌≡◌, ◌<◌, ◌≤◌, ℕ, suc, List, [], ◌∷◌, ◌++◌, length, Bool, true, false, None, Some, refl, sym, ap, ◌∙◌, arith, inl, inr, subst, All, AllPairs, get_or, take}
use Rattle.std.specs.Prelude.{◌&&◌, nat_lt}
use Rattle.std.proofs.lemmas.Bool.{cases_eq, and_from, and_parts, both_ways, cond-true, eq-eqb, ltb-true}
use Rattle.std.proofs.Math.Seq.{take-append_seam}
use Rattle.std.proofs.lemmas.List.{append_assoc, append-nil, take_all}
use Rattle.std.proofs.lemmas.List.Elements.{All-nil, All-weaker}
use Rattle.audit_base.specs.declared.orders.Order.{Order}
use Rattle.audit_base.specs.declared.orders.Deal.{Deal}
use Rattle.audit_base.specs.declared.terms.Side.{Side}
use Rattle.audit_base.specs.Continuous.{left_before, rests_before, rests_before_in_ledger, size_in_ledger, traded_before, uncancelled_before}
use Rattle.audit_base.specs.Orders.{limit_at, may_rest, order_at, place_at, same_side, side_at, IsOrderList}
use Rattle.audit_base.proofs.OrderLemmas.{is-same_side, place-rises, same_side-is}
use Rattle.continuous_audit.specs.Records.{AreTradedBefore}
use Rattle.continuous_audit.proofs.NumberLemmas.{traded-at}
use Rattle.order_arrivals.specs.declared.dealt_orders.DealtOrders.{DealtOrders}
use Rattle.order_arrivals.specs.DealtOrders.{HaveTraded, IsMarket}
use Rattle.order_arrivals.specs.Resting.{rests_with}
use Rattle.order_book.specs.Books.{IsAheadInBook, best_resting, has_index_and_limit, with_order, without_order}
use Rattle.order_book.specs.declared.books.Resting.{Resting}
use Rattle.continuous_picture.specs.BooksAt.{AreLines, IsBookLine, IsWholeBook}
use Rattle.continuous_picture.specs.Walks.{HasLineOf}
use Rattle.continuous_picture.proofs.BookLemmas.{ahead-of, with-all, with-has, with-own}

module _ (orders : List Order) (deals : List Deal) where
  abbrev past : ℕ → ℕ → ℕ
  past = traded_before orders deals

  -- whether an order rests, by its place and what is known of it
  rest-cases : (l e u : Bool) → (e && (l && u)) ≡ ((l && e) && u)
  rest-cases true true u = refl
  rest-cases true false u = refl
  rest-cases false true u = refl
  rest-cases false false u = refl

  pub rests-known : (p x size traded : ℕ) → size ≡ size_in_ledger orders past x → traded ≡ past p x
      → (nat_lt (place_at orders x) p && rests_with (order_at orders x) p size traded) ≡ rests_before orders deals p x
  unfolding rests_before_in_ledger size_in_ledger
  rests-known p x size traded size_is traded_is =
      let o = order_at orders x in
      (λ i. nat_lt (place_at orders x) p && rests_with o p (size_is i) (traded_is i)) ∙ rest-cases (may_rest o.life) (nat_lt (place_at orders x) p) (uncancelled_before o.cancelled p && nat_lt (past p x) (size_in_ledger orders past x))

  -- something is left of an order that rests
  pub left-some : (p x : ℕ) → rests_before orders deals p x ≡ true → 0 < left_before orders deals p x
  unfolding rests_before_in_ledger size_in_ledger
  left-some p x t =
      let o = order_at orders x in
      let both = and_parts (may_rest o.life && nat_lt (place_at orders x) p) (uncancelled_before o.cancelled p && nat_lt (past p x) (size_in_ledger orders past x)) t in
      let second = and_parts (uncancelled_before o.cancelled p) (nat_lt (past p x) (size_in_ledger orders past x)) both.1 in
      let fewer = ltb-true _ _ second.1 in
      omega arith

  module _ (side : Side) (place : ℕ) where
    abbrev Line : Resting → Type 0
    Line = IsBookLine orders deals side place

    abbrev Lines : ℕ → List Resting → Type 0
    Lines = AreLines orders deals side place

    below-more : (n : ℕ) (xs : List Resting) → All (λ r. r.index < n) xs → All (λ r. r.index < suc n) xs
    below-more n xs below = All-weaker (λ r. r.index < n) (λ r. r.index < suc n) (λ r lt. omega arith) xs below

    pub lines-none : (xs : List Resting) → xs ≡ [] → Lines 0 xs
    lines-none xs e = subst (Lines 0) (sym e) (record { only = All-nil Line; early = All-nil (λ r. r.index < 0); each = λ x lt of t. absurd (omega arith) })

    pub lines-skipped : (n : ℕ) (xs : List Resting) → (same_side side (side_at orders n) && rests_before orders deals place n) ≡ false → Lines n xs → Lines (suc n) xs
    lines-skipped n xs off is = record {
      only = is.only;
      early = below-more n xs is.early;
      each = λ x lt of t. elim (cases_eq x n) [
        | inl e ↦ absurd (both_ways _ off (and_from _ _ (is-same_side side (side_at orders n) (sym of ∙ ap (side_at orders) e)) (ap (rests_before orders deals place) (sym e) ∙ t)))
        | inr ne ↦ is.each x (omega (arith, ne)) of t
      ];
    }

    pub lines-added : (n : ℕ) (xs ys : List Resting) (r : Resting) → n < length orders → r.index ≡ n → r.limit ≡ limit_at orders n → r.left ≡ left_before orders deals place n
        → (same_side side (side_at orders n) && rests_before orders deals place n) ≡ true → ys ≡ with_order side r xs → Lines n xs → Lines (suc n) ys
    lines-added n xs ys r inside i l z on made is =
        let both = and_parts (same_side side (side_at orders n)) (rests_before orders deals place n) on in
        let line : Line r = record {
          inside = omega arith;
          of_side = ap (side_at orders) i ∙ same_side-is side (side_at orders n) both.0;
          rests = ap (rests_before orders deals place) i ∙ both.1;
          limit = l ∙ ap (limit_at orders) (sym i);
          left = z ∙ ap (left_before orders deals place) (sym i);
        } in
        subst (Lines (suc n)) (sym made) (record {
          only = with-all side r Line xs line is.only;
          early = with-all side r (λ s. s.index < suc n) xs (omega arith) (below-more n xs is.early);
          each = λ x lt of t. elim (cases_eq x n) [
            | inl e ↦ subst (HasLineOf (with_order side r xs)) (i ∙ sym e) (with-own side r xs)
            | inr ne ↦ with-has side r x xs (is.each x (omega (arith, ne)) of t)
          ];
        })

    pub book-whole : IsOrderList orders → (xs : List Resting) → Lines (length orders) xs → AllPairs (IsAheadInBook side) xs → IsWholeBook orders deals side place xs
    book-whole list xs is ranked = record {
      are = is;
      ranked = λ i j d lt inside.
          let a = is.only i d (omega arith) in
          let b = is.only j d inside in
          ahead-of orders list side (get_or xs i d) (get_or xs j d) a.inside b.inside a.of_side b.of_side a.limit b.limit (ranked i j d lt inside);
    }

-- what each order has traded before a place, by the deals of the orders before it
pub before-known : (m : DealtOrders) → IsMarket m → (place n added : ℕ) (traded : List ℕ) → HaveTraded m n added traded → ((x : ℕ) → x < n → place_at m.orders.now x < place) → ((x : ℕ) → n ≤ x → x < length m.orders.now → place ≤ place_at m.orders.now x)
    → AreTradedBefore m.orders.now m.deals.now place traded
before-known m market place n added traded has come coming =
    traded-at m.orders.now market.order_list m.deals.now market.deal_list m.incoming_deals.now market.incoming_deals place n added traded has.split has.totals (λ k inside lt. come k lt) (λ k inside le. coming k le inside)

-- the orders from one on are not before a place that this one is not before
pub coming-from : (orders : List Order) → IsOrderList orders → (n place : ℕ) → place ≤ place_at orders n → (x : ℕ) → n ≤ x → x < length orders → place ≤ place_at orders x
coming-from orders list n place from x le lt = elim (cases_eq x n) [
  | inl e ↦ let same : place_at orders x ≡ place_at orders n = ap (place_at orders) e in omega arith
  | inr ne ↦ let up = place-rises orders list n x (omega (arith, ne)) lt in omega arith
]

-- A book is read from its front.

pub front-more : (xs lines : List Resting) (r : Resting) (whole : List Resting) → best_resting xs ≡ Some r → lines ++ xs ≡ whole → (lines ++ r ∷ []) ++ without_order r.index r.limit xs ≡ whole
front-more [] lines r whole found e = absurd (cc)
front-more (x ∷ xs) lines r whole found e =
    let same : x ≡ r = cc in
    let on : has_index_and_limit r.index r.limit x ≡ true = and_from _ _ (eq-eqb _ _ (ap (λ (y : Resting). y.index) same)) (eq-eqb _ _ (ap (λ (y : Resting). y.limit) same)) in
    let is : without_order r.index r.limit (x ∷ xs) ≡ xs = cond-true (has_index_and_limit r.index r.limit x) xs (x ∷ without_order r.index r.limit xs) on in
    ap (λ (ys : List Resting). (lines ++ r ∷ []) ++ ys) is ∙ append_assoc lines (r ∷ []) xs ∙ ap (λ (y : Resting). lines ++ y ∷ xs) (sym same) ∙ e

pub front-all : (xs lines whole : List Resting) (n : ℕ) → lines ++ xs ≡ whole → length lines ≡ n → lines ≡ take n whole
front-all xs lines whole n e long = sym (ap (take n) (sym e) ∙ ap (λ (k : ℕ). take k (lines ++ xs)) (sym long) ∙ take-append_seam lines xs)

none-left : (xs : List Resting) → best_resting xs ≡ None → xs ≡ []
none-left [] e = refl
none-left (x ∷ xs) e = absurd (cc)

pub front-few : (xs lines whole : List Resting) (n : ℕ) → lines ++ xs ≡ whole → length lines ≤ n → best_resting xs ≡ None → lines ≡ take n whole
front-few xs lines whole n e few none =
    let all : lines ≡ whole = sym (append-nil lines) ∙ ap (λ (ys : List Resting). lines ++ ys) (sym (none-left xs none)) ∙ e in
    sym (take_all n whole (omega (arith, ap length all)) ∙ sym all)
