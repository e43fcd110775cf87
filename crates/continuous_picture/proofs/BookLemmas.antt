-- Books that have all active orders, and maybe others: the best of them that is active.
use Rattle.std.proofs.Common.{◌≡◌, ◌<◌, ◌≤◌, ℕ, suc, List, [], ◌∷◌, length, Bool, true, false, None, Some, option_map, refl, sym, ap, ◌∙◌, arith, inl, inr, subst, All, AllPairs}
use Rattle.std.specs.Prelude.{◌&&◌, not, Contains}
use Rattle.std.proofs.lemmas.Bool.{cases_Bool, and_from, and_left, and_parts, both_ways, cond-true, cond-false, false_from_ne_true, eq-eqb}
use Rattle.std.proofs.lemmas.List.Elements.{All-cons, All-head, All-tail, All-contains}
use Rattle.audit_base.specs.declared.orders.Order.{Order}
use Rattle.audit_base.specs.declared.orders.Deal.{Deal}
use Rattle.audit_base.specs.declared.terms.Side.{Side}
use Rattle.audit_base.specs.Continuous.{active_after}
use Rattle.audit_base.specs.Least.{any_below}
use Rattle.audit_base.specs.Orders.{limit_at, order_at, same_side, side_at, IsOrderList}
use Rattle.audit_base.specs.Priority.{better, better_limit, Better, best_order}
use Rattle.audit_base.proofs.LeastLemmas.{with-none}
use Rattle.audit_base.proofs.OrderLemmas.{is-same_side, same_side-is}
use Rattle.audit_base.proofs.PriorityLemmas.{is-best, Better-one_way, Better-strict}
use Rattle.audit_base.proofs.SumLemmas.{AllPairs-head, Contains-behind, Contains-cases, Contains-front}
use Rattle.continuous_audit.proofs.HeadLemmas.{ahead-better}
use Rattle.order_book.specs.Books.{IsAheadInBook, best_resting, has_index_and_limit, with_order, without_order}
use Rattle.order_book.specs.declared.books.Resting.{Resting}
use Rattle.continuous_picture.specs.Quotes.{best_limit, is_active_on}
use Rattle.continuous_picture.specs.Walks.{from_passing, HasLineOf, IsBookOnWalk, IsInWalkBook}

-- The first of a book, and where its orders are.

pub first-holds : (P : Resting → Type 0) (xs : List Resting) (r : Resting) → best_resting xs ≡ Some r → All P xs → P r
first-holds P [] r e h = absurd (cc)
first-holds P (x ∷ xs) r e h = let same : x ≡ r = cc in subst P same (All-head P x xs h)

-- The list from the first that passes a test on.

module _ (test : Resting → Bool) where
  first-all : (P : Resting → Type 0) (xs : List Resting) → All P xs → All P (from_passing test xs)
  first-all P [] h = h
  first-all P (x ∷ xs) h = elim (cases_Bool (test x)) [
    | inl t ↦ rw t h
    | inr f ↦ rw f (first-all P xs (All-tail P x xs h))
  ]

  first-has : (order : ℕ) (xs : List Resting) → ((r : Resting) → Contains xs r → r.index ≡ order → test r ≡ true) → HasLineOf xs order → HasLineOf (from_passing test xs) order
  first-has order [] h has = has
  first-has order (x ∷ xs) h has = elim (cases_Bool (test x)) [
    | inl t ↦ rw t has
    | inr f ↦ elim (Contains-cases x xs has.0 has.1) [
      | inl e ↦ absurd (both_ways _ f (h x (Contains-front x xs) (ap (λ (r : Resting). r.index) e ∙ has.2)))
      | inr c ↦ rw f (first-has order xs (λ r d. h r (Contains-behind x xs r d)) (has.0, c, has.2))
    ]
  ]

  pub first-passes : (xs : List Resting) (r : Resting) → best_resting (from_passing test xs) ≡ Some r → test r ≡ true
  first-passes [] r e = absurd (cc)
  first-passes (x ∷ xs) r e = elim (cases_Bool (test x)) [
    | inl t ↦ let e' : Some x ≡ Some r = rw t at e in let same : x ≡ r = cc in subst (λ (y : Resting). test y ≡ true) same t
    | inr f ↦ first-passes xs r (rw f at e)
  ]

  -- one step of the loop: the first does not pass and is taken out
  pub first-step : (xs ys : List Resting) (r : Resting) → best_resting xs ≡ Some r → test r ≡ false → ys ≡ without_order r.index r.limit xs → (from_passing test ys ≡ from_passing test xs) × (suc (length ys) ≡ length xs)
  first-step [] ys r e f made = absurd (cc)
  first-step (x ∷ xs) ys r e f made =
      let same : x ≡ r = cc in
      let off : test x ≡ false = ap test same ∙ f in
      let on : has_index_and_limit r.index r.limit x ≡ true = and_from _ _ (eq-eqb _ _ (ap (λ (y : Resting). y.index) same)) (eq-eqb _ _ (ap (λ (y : Resting). y.limit) same)) in
      let is : ys ≡ xs = made ∙ cond-true (has_index_and_limit r.index r.limit x) xs (x ∷ without_order r.index r.limit xs) on in
      (ap (from_passing test) is ∙ sym (cond-false (test x) (x ∷ xs) (from_passing test xs) off), ap (λ (zs : List Resting). suc (length zs)) is)

  pub first-stays : (P : Resting → Type 0) (xs ys : List Resting) (r : Resting) → best_resting xs ≡ Some r → ys ≡ without_order r.index r.limit xs → All P xs → All P ys
  first-stays P [] ys r e made h = absurd (cc)
  first-stays P (x ∷ xs) ys r e made h =
      let same : x ≡ r = cc in
      let on : has_index_and_limit r.index r.limit x ≡ true = and_from _ _ (eq-eqb _ _ (ap (λ (y : Resting). y.index) same)) (eq-eqb _ _ (ap (λ (y : Resting). y.limit) same)) in
      let is : ys ≡ xs = made ∙ cond-true (has_index_and_limit r.index r.limit x) xs (x ∷ without_order r.index r.limit xs) on in
      subst (All P) (sym is) (All-tail P x xs h)

  -- where the first passes, or there is none, the list is as it was
  pub first-kept : (xs : List Resting) (r : Resting) → best_resting xs ≡ Some r → test r ≡ true → from_passing test xs ≡ xs
  first-kept [] r e t = refl
  first-kept (x ∷ xs) r e t = let same : x ≡ r = cc in cond-true (test x) (x ∷ xs) (from_passing test xs) (ap test same ∙ t)

  pub first-none : (xs : List Resting) → best_resting xs ≡ None → from_passing test xs ≡ xs
  first-none [] e = refl
  first-none (x ∷ xs) e = absurd (cc)

-- Lists with one order more.

module _ (side : Side) (r : Resting) where
  pub with-all : (P : Resting → Type 0) (xs : List Resting) → P r → All P xs → All P (with_order side r xs)
  with-all P [] h all = All-cons P r [] h all
  with-all P (x ∷ xs) h all = elim (cases_Bool (better_limit side r.limit x.limit)) [
    | inl t ↦ rw t (All-cons P r (x ∷ xs) h all)
    | inr f ↦ rw f (All-cons P x (with_order side r xs) (All-head P x xs all) (with-all P xs h (All-tail P x xs all)))
  ]

  pub with-has : (order : ℕ) (xs : List Resting) → HasLineOf xs order → HasLineOf (with_order side r xs) order
  with-has order [] has = let none = has.1.1 in absurd (omega arith)
  with-has order (x ∷ xs) has = elim (cases_Bool (better_limit side r.limit x.limit)) [
    | inl t ↦ rw t (has.0, Contains-behind r (x ∷ xs) has.0 has.1, has.2)
    | inr f ↦ rw f (elim (Contains-cases x xs has.0 has.1) [
      | inl e ↦ (x, Contains-front x (with_order side r xs), ap (λ (y : Resting). y.index) e ∙ has.2)
      | inr c ↦ let rest = with-has order xs (has.0, c, has.2) in (rest.0, Contains-behind x (with_order side r xs) rest.0 rest.1, rest.2)
    ])
  ]

  pub with-own : (xs : List Resting) → HasLineOf (with_order side r xs) r.index
  with-own [] = (r, Contains-front r [], refl)
  with-own (x ∷ xs) = elim (cases_Bool (better_limit side r.limit x.limit)) [
    | inl t ↦ rw t (r, Contains-front r (x ∷ xs), refl)
    | inr f ↦ rw f (let rest = with-own xs in (rest.0, Contains-behind x (with_order side r xs) rest.0 rest.1, rest.2))
  ]

-- a test says of the first orders whether they are active
abbrev pub Tells : List Order → List Deal → ℕ → ℕ → (Resting → Bool) → Type 0
Tells orders deals count place t = (r : Resting) → r.index < count → t r ≡ active_after orders deals place r.index

-- The best that is active.

pub ahead-of : (orders : List Order) → IsOrderList orders → (side : Side) (h r : Resting) → h.index < length orders → r.index < length orders → side_at orders h.index ≡ side → side_at orders r.index ≡ side
    → h.limit ≡ limit_at orders h.index → r.limit ≡ limit_at orders r.index → IsAheadInBook side h r → Better orders h.index r.index
ahead-of orders list side h r i j of of' limit limit' ahead =
    ahead-better orders list side h.index r.index 0 0 i j of of' (elim ahead [
      | inl t ↦ inl (sym (λ k. better_limit side (limit k) (limit' k)) ∙ t)
      | inr tie ↦ inr (sym limit ∙ tie.0 ∙ limit', tie.1)
    ])

module _ (orders : List Order) (list : IsOrderList orders) (deals : List Deal) (side : Side) (count place : ℕ) (within : count ≤ length orders)
    (come : (x : ℕ) → x < length orders → active_after orders deals place x ≡ true → x < count) where
  abbrev test : ℕ → Bool
  test = is_active_on orders deals side place

  abbrev Book : List Resting → Type 0
  Book = IsBookOnWalk orders deals side count place

  test-side : (x : ℕ) → x < length orders → test x ≡ true → side_at orders x ≡ side
  test-side x lt t =
      let more = and_parts (same_side side (side_at orders x)) (active_after orders deals place x) t in
      same_side-is side (side_at orders x) more.0

  test-has : (xs : List Resting) → Book xs → (x : ℕ) → x < length orders → test x ≡ true → HasLineOf xs x
  test-has xs is x lt t =
      let more = and_parts (same_side side (side_at orders x)) (active_after orders deals place x) t in
      is.each x (come x lt more.1) (same_side-is side (side_at orders x) more.0) more.1

  ahead-in : (h r : Resting) → IsInWalkBook orders side count h → IsInWalkBook orders side count r → IsAheadInBook side h r → Better orders h.index r.index
  ahead-in h r a b ahead =
      let i = a.inside in
      let j = b.inside in
      ahead-of orders list side h r (omega arith) (omega arith) a.of_side b.of_side a.limit b.limit ahead

  best-active : (xs : List Resting) → Book xs → AllPairs (IsAheadInBook side) xs → ((r : Resting) → best_resting xs ≡ Some r → active_after orders deals place r.index ≡ true) → option_map (λ (r : Resting). r.index) (best_resting xs) ≡ best_order orders test
  unfolding best_order
  best-active [] is ranked head = sym (with-none (λ order. test order && not (any_below (λ other. test other && better (order_at orders other) (order_at orders order)) (length orders))) (length orders)
      (λ k lt. and_left (test k) (not (any_below (λ other. test other && better (order_at orders other) (order_at orders k)) (length orders))) (false_from_ne_true (test k) (λ t. let has = test-has [] is k lt t in let none = has.1.1 in omega arith))))
  best-active (h ∷ ys) is ranked head = sym (is-best orders list test side test-side h.index (record {
    inside = let i = (All-head (IsInWalkBook orders side count) h ys is.only).inside in omega arith;
    passes =
        let part = All-head (IsInWalkBook orders side count) h ys is.only in
        and_from _ _ (is-same_side side (side_at orders h.index) (sym part.of_side)) (head h refl);
    none_better = λ j lt t over.
        let part = All-head (IsInWalkBook orders side count) h ys is.only in
        let has = test-has (h ∷ ys) is j lt t in
        elim (Contains-cases h ys has.0 has.1) [
          | inl e ↦
              let same : h.index ≡ j = ap (λ (r : Resting). r.index) e ∙ has.2 in
              Better-strict orders j (subst (λ (k : ℕ). Better orders j k) same over)
          | inr c ↦
              let behind : IsAheadInBook side h has.0 = All-contains (IsAheadInBook side h) ys has.0 (AllPairs-head (IsAheadInBook side) h ys ranked) c in
              let own : IsInWalkBook orders side count has.0 = All-contains (IsInWalkBook orders side count) ys has.0 (All-tail (IsInWalkBook orders side count) h ys is.only) c in
              let ahead : Better orders h.index j = subst (λ (k : ℕ). Better orders h.index k) has.2 (ahead-in h has.0 part own behind) in
              Better-one_way orders h.index j ahead over
        ];
  }))

  limits-of : (xs : List Resting) → Book xs → option_map (λ (r : Resting). r.limit) (best_resting xs) ≡ option_map (limit_at orders) (option_map (λ (r : Resting). r.index) (best_resting xs))
  limits-of [] is = refl
  limits-of (h ∷ ys) is = ap Some (All-head (IsInWalkBook orders side count) h ys is.only).limit

  -- without those in front that are not active
  pub book-first : (t : Resting → Bool) → Tells orders deals count place t → (xs : List Resting) → Book xs → Book (from_passing t xs)
  book-first t same xs is = record {
    only = first-all t (IsInWalkBook orders side count) xs is.only;
    each = λ x lt of on. first-has t x xs (λ r c e. same r (rw e lt) ∙ ap (active_after orders deals place) e ∙ on) (is.each x lt of on);
  }

  pub best-limit : (t : Resting → Bool) → Tells orders deals count place t → (xs : List Resting) → Book xs → AllPairs (IsAheadInBook side) (from_passing t xs)
      → option_map (λ (r : Resting). r.limit) (best_resting (from_passing t xs)) ≡ best_limit orders deals side place
  best-limit t same xs is ranked =
      let book = book-first t same xs is in
      limits-of (from_passing t xs) book ∙ ap (option_map (limit_at orders)) (best-active (from_passing t xs) book ranked (λ r e. sym (same r (first-holds (IsInWalkBook orders side count) (from_passing t xs) r e book.only).inside) ∙ first-passes t xs r e))
