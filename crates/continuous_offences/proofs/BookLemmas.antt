-- Books that have all orders that rest, and maybe others: the best of them that rests.
use Rattle.std.proofs.Common.{◌≡◌, ◌<◌, ◌≤◌, ℕ, suc, List, [], ◌∷◌, length, Bool, true, false, None, Some, option_map, refl, sym, ap, ◌∙◌, arith, inl, inr, subst, All, AllPairs}
use Rattle.std.specs.Prelude.{◌&&◌, nat_lt, not, Contains}
use Rattle.std.proofs.lemmas.Bool.{cases_Bool, and_from, and_left, and_parts, both_ways, cond-true, cond-false, false_from_ne_true, lt-ltb, ltb-true, eq-eqb}
use Rattle.std.proofs.lemmas.List.Elements.{All-head, All-tail, All-contains, All-weaker}
use Rattle.audit_base.specs.declared.orders.Order.{Order}
use Rattle.audit_base.specs.declared.orders.Deal.{Deal}
use Rattle.audit_base.specs.declared.terms.Side.{Side}
use Rattle.audit_base.specs.Least.{any_below}
use Rattle.audit_base.specs.Orders.{order_at, same_side, side_at, IsOrderList}
use Rattle.audit_base.specs.Priority.{better, better_limit, Better, best_order}
use Rattle.audit_base.proofs.LeastLemmas.{with-none}
use Rattle.audit_base.proofs.OrderLemmas.{is-same_side, same_side-is}
use Rattle.audit_base.proofs.PriorityLemmas.{is-best, Better-one_way, Better-strict}
use Rattle.audit_base.proofs.SumLemmas.{AllPairs-head, Contains-behind, Contains-cases, Contains-front}
use Rattle.continuous_audit.proofs.HeadLemmas.{ahead-better}
use Rattle.order_book.specs.Books.{IsAheadInBook, best_resting, has_index_and_limit, without_order}
use Rattle.order_book.specs.declared.books.Resting.{Resting}
use Rattle.continuous_offences.specs.Books.{from_first, HasOrder, IsBookOf, IsInBook, waits, waits_on}

-- The first of a book, and where its orders are.

pub first-holds : (P : Resting → Type 0) (xs : List Resting) (r : Resting) → best_resting xs ≡ Some r → All P xs → P r
first-holds P [] r e h = absurd (cc)
first-holds P (x ∷ xs) r e h = let same : x ≡ r = cc in subst P same (All-head P x xs h)

pub book-below : (orders : List Order) (deals : List Deal) (side : Side) (count place next : ℕ) (xs : List Resting) → IsBookOf orders deals side count place next xs → All (λ r. r.index < count) xs
book-below orders deals side count place next xs is = All-weaker (IsInBook orders side count) (λ r. r.index < count) (λ r own. own.inside) xs is.only

pub book-inside : (orders : List Order) (deals : List Deal) (side : Side) (count place next : ℕ) (xs : List Resting) → count < length orders → IsBookOf orders deals side count place next xs → All (λ r. r.index < length orders) xs
book-inside orders deals side count place next xs within is = All-weaker (IsInBook orders side count) (λ r. r.index < length orders) (λ r own. let i = own.inside in omega arith) xs is.only

-- The list from the first that passes a test on.

module _ (test : Resting → Bool) where
  first-all : (P : Resting → Type 0) (xs : List Resting) → All P xs → All P (from_first test xs)
  first-all P [] h = h
  first-all P (x ∷ xs) h = elim (cases_Bool (test x)) [
    | inl t ↦ rw t h
    | inr f ↦ rw f (first-all P xs (All-tail P x xs h))
  ]

  first-has : (order : ℕ) (xs : List Resting) → ((r : Resting) → Contains xs r → r.index ≡ order → test r ≡ true) → HasOrder xs order → HasOrder (from_first test xs) order
  first-has order [] h has = has
  first-has order (x ∷ xs) h has = elim (cases_Bool (test x)) [
    | inl t ↦ rw t has
    | inr f ↦ elim (Contains-cases x xs has.0 has.1) [
      | inl e ↦ absurd (both_ways _ f (h x (Contains-front x xs) (ap (λ (r : Resting). r.index) e ∙ has.2)))
      | inr c ↦ rw f (first-has order xs (λ r d. h r (Contains-behind x xs r d)) (has.0, c, has.2))
    ]
  ]

  pub first-passes : (xs : List Resting) (r : Resting) → best_resting (from_first test xs) ≡ Some r → test r ≡ true
  first-passes [] r e = absurd (cc)
  first-passes (x ∷ xs) r e = elim (cases_Bool (test x)) [
    | inl t ↦ let e' : Some x ≡ Some r = rw t at e in let same : x ≡ r = cc in subst (λ (y : Resting). test y ≡ true) same t
    | inr f ↦ first-passes xs r (rw f at e)
  ]

  -- one step of the loop: the first does not pass and is taken out
  pub first-step : (xs ys : List Resting) (r : Resting) → best_resting xs ≡ Some r → test r ≡ false → ys ≡ without_order r.index r.limit xs → (from_first test ys ≡ from_first test xs) × (suc (length ys) ≡ length xs)
  first-step [] ys r e f made = absurd (cc)
  first-step (x ∷ xs) ys r e f made =
      let same : x ≡ r = cc in
      let off : test x ≡ false = ap test same ∙ f in
      let on : has_index_and_limit r.index r.limit x ≡ true = and_from _ _ (eq-eqb _ _ (ap (λ (y : Resting). y.index) same)) (eq-eqb _ _ (ap (λ (y : Resting). y.limit) same)) in
      let is : ys ≡ xs = made ∙ cond-true (has_index_and_limit r.index r.limit x) xs (x ∷ without_order r.index r.limit xs) on in
      (ap (from_first test) is ∙ sym (cond-false (test x) (x ∷ xs) (from_first test xs) off), ap (λ (zs : List Resting). suc (length zs)) is)

  pub first-stays : (P : Resting → Type 0) (xs ys : List Resting) (r : Resting) → best_resting xs ≡ Some r → ys ≡ without_order r.index r.limit xs → All P xs → All P ys
  first-stays P [] ys r e made h = absurd (cc)
  first-stays P (x ∷ xs) ys r e made h =
      let same : x ≡ r = cc in
      let on : has_index_and_limit r.index r.limit x ≡ true = and_from _ _ (eq-eqb _ _ (ap (λ (y : Resting). y.index) same)) (eq-eqb _ _ (ap (λ (y : Resting). y.limit) same)) in
      let is : ys ≡ xs = made ∙ cond-true (has_index_and_limit r.index r.limit x) xs (x ∷ without_order r.index r.limit xs) on in
      subst (All P) (sym is) (All-tail P x xs h)

  -- where the first passes, or there is none, the list is as it was
  pub first-kept : (xs : List Resting) (r : Resting) → best_resting xs ≡ Some r → test r ≡ true → from_first test xs ≡ xs
  first-kept [] r e t = refl
  first-kept (x ∷ xs) r e t = let same : x ≡ r = cc in cond-true (test x) (x ∷ xs) (from_first test xs) (ap test same ∙ t)

  pub first-none : (xs : List Resting) → best_resting xs ≡ None → from_first test xs ≡ xs
  first-none [] e = refl
  first-none (x ∷ xs) e = absurd (cc)

-- The best that waits.

module _ (orders : List Order) (list : IsOrderList orders) (deals : List Deal) (side : Side) (count place next : ℕ) (within : count ≤ length orders) where
  abbrev test : ℕ → Bool
  test = waits_on orders deals side count place next

  abbrev Book : List Resting → Type 0
  Book = IsBookOf orders deals side count place next

  pub test-side : (x : ℕ) → x < length orders → test x ≡ true → side_at orders x ≡ side
  test-side x lt t =
      let parts = and_parts (nat_lt x count) (same_side side (side_at orders x) && waits orders deals place next x) t in
      let more = and_parts (same_side side (side_at orders x)) (waits orders deals place next x) parts.1 in
      same_side-is side (side_at orders x) more.0

  test-has : (xs : List Resting) → Book xs → (x : ℕ) → test x ≡ true → HasOrder xs x
  test-has xs is x t =
      let parts = and_parts (nat_lt x count) (same_side side (side_at orders x) && waits orders deals place next x) t in
      let more = and_parts (same_side side (side_at orders x)) (waits orders deals place next x) parts.1 in
      is.each x (ltb-true x count parts.0) (same_side-is side (side_at orders x) more.0) more.1

  ahead-of : (h r : Resting) → IsInBook orders side count h → IsInBook orders side count r → IsAheadInBook side h r → Better orders h.index r.index
  ahead-of h r a b ahead =
      let i = a.inside in
      let j = b.inside in
      ahead-better orders list side h.index r.index 0 0 (omega arith) (omega arith) a.of_side b.of_side (elim ahead [
        | inl t ↦ inl (sym (λ k. better_limit side (a.limit k) (b.limit k)) ∙ t)
        | inr tie ↦ inr (sym a.limit ∙ tie.0 ∙ b.limit, tie.1)
      ])

  pub best-waiting : (xs : List Resting) → Book xs → AllPairs (IsAheadInBook side) xs → ((r : Resting) → best_resting xs ≡ Some r → waits orders deals place next r.index ≡ true) → option_map (λ (r : Resting). r.index) (best_resting xs) ≡ best_order orders test
  unfolding best_order
  best-waiting [] is ranked head = sym (with-none (λ order. test order && not (any_below (λ other. test other && better (order_at orders other) (order_at orders order)) (length orders))) (length orders)
      (λ k lt. and_left (test k) (not (any_below (λ other. test other && better (order_at orders other) (order_at orders k)) (length orders))) (false_from_ne_true (test k) (λ t. let has = test-has [] is k t in let none = has.1.1 in omega arith))))
  best-waiting (h ∷ ys) is ranked head = sym (is-best orders list test side test-side h.index (record {
    inside = let i = (All-head (IsInBook orders side count) h ys is.only).inside in omega arith;
    passes =
        let part = All-head (IsInBook orders side count) h ys is.only in
        and_from _ _ (lt-ltb _ _ part.inside) (and_from _ _ (is-same_side side (side_at orders h.index) (sym part.of_side)) (head h refl));
    none_better = λ j lt t over.
        let part = All-head (IsInBook orders side count) h ys is.only in
        let has = test-has (h ∷ ys) is j t in
        elim (Contains-cases h ys has.0 has.1) [
          | inl e ↦
              let same : h.index ≡ j = ap (λ (r : Resting). r.index) e ∙ has.2 in
              Better-strict orders j (subst (λ (k : ℕ). Better orders j k) same over)
          | inr c ↦
              let behind : IsAheadInBook side h has.0 = All-contains (IsAheadInBook side h) ys has.0 (AllPairs-head (IsAheadInBook side) h ys ranked) c in
              let own : IsInBook orders side count has.0 = All-contains (IsInBook orders side count) ys has.0 (All-tail (IsInBook orders side count) h ys is.only) c in
              let ahead : Better orders h.index j = subst (λ (k : ℕ). Better orders h.index k) has.2 (ahead-of h has.0 part own behind) in
              Better-one_way orders h.index j ahead over
        ];
  }))

  -- without those in front that do not wait
  pub book-first : (t : Resting → Bool) → ((r : Resting) → t r ≡ waits orders deals place next r.index) → (xs : List Resting) → Book xs
      → Book (from_first t xs) × ((r : Resting) → best_resting (from_first t xs) ≡ Some r → waits orders deals place next r.index ≡ true)
  book-first t same xs is = (
    record {
      only = first-all t (IsInBook orders side count) xs is.only;
      each = λ x lt of on. first-has t x xs (λ r c e. same r ∙ ap (waits orders deals place next) e ∙ on) (is.each x lt of on);
    },
    λ r e. sym (same r) ∙ first-passes t xs r e,
  )
