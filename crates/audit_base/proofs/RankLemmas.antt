-- In a ranked list of a side, the first that passes a test is the best of the standing orders that pass it.
use Rattle.std.proofs.Common.{◌≡◌, ◌<◌, ℕ, zero, suc, List, [], ◌∷◌, length, get_or, Bool, true, false, Some, None, sym, ap, ◌∙◌, arith, inl, inr, subst}
use Rattle.std.specs.Prelude.{◌&&◌, find}
use Rattle.std.proofs.lemmas.Bool.{cases_Bool, cases_order, and_parts, and_from, both_ways, cond-true, cond-false}
use Rattle.audit_base.specs.declared.terms.Side.{Side}
use Rattle.audit_base.specs.declared.orders.Order.{Order}
use Rattle.audit_base.specs.Orders.{order_at, is_uncancelled_on, IsUncancelledOn, IsOrderList}
use Rattle.audit_base.specs.Priority.{Better, IsRanked, best_order}
use Rattle.audit_base.proofs.OrderLemmas.{test-stands, stands-test}
use Rattle.audit_base.proofs.LeastLemmas.{cases_Option}
use Rattle.audit_base.proofs.PriorityLemmas.{Better-strict, Better-one_way, IsBest, best-is, is-best}

-- what `find` gives: the first that passes
pub record IsFirst (test : ℕ → Bool) (xs : List ℕ) (x : ℕ) : Type 0 where
  pub at : ℕ
  pub inside : at < length xs
  pub here : (d : ℕ) → get_or xs at d ≡ x
  pub passes : test x ≡ true
  pub before : (j d : ℕ) → j < at → test (get_or xs j d) ≡ false

found-cons : (test : ℕ → Bool) (x : ℕ) (xs : List ℕ) (y : ℕ) → test x ≡ false → IsFirst test xs y → IsFirst test (x ∷ xs) y
found-cons test x xs y fails f = record {
  at = suc f.at;
  inside = let lt = f.inside in omega arith;
  here = f.here;
  passes = f.passes;
  before = λ j d lt. first_or j d lt;
}
  where
    first_or : (j d : ℕ) → j < suc f.at → test (get_or (x ∷ xs) j d) ≡ false
    first_or zero d lt = fails
    first_or (suc j) d lt = f.before j d (omega arith)

pub find-first : (test : ℕ → Bool) (xs : List ℕ) (y : ℕ) → find test xs ≡ Some y → IsFirst test xs y
find-first test [] y e = cc
find-first test (x ∷ xs) y e = elim (cases_Bool (test x)) [
  | inl t ↦
      let same : x ≡ y = some-same x y (sym (cond-true (test x) (Some x) (find test xs) t) ∙ e) in
      record { at = 0; inside = omega arith; here = λ d. same; passes = subst (λ z. test z ≡ true) same t; before = λ j d lt. absurd (omega arith) }
  | inr f ↦ found-cons test x xs y f (find-first test xs y (sym (cond-false (test x) (Some x) (find test xs) f) ∙ e))
]
  where
    some-same : (x y : ℕ) → Some x ≡ Some y → x ≡ y
    some-same x y e = cc

none-cons : (test : ℕ → Bool) (x : ℕ) (xs : List ℕ) → test x ≡ false → ((k d : ℕ) → k < length xs → test (get_or xs k d) ≡ false)
    → (k d : ℕ) → k < suc (length xs) → test (get_or (x ∷ xs) k d) ≡ false
none-cons test x xs f h zero d lt = f
none-cons test x xs f h (suc k) d lt = h k d (omega arith)

some-none : (x : ℕ) → Some x ≡ None → ⊥
some-none x e = cc

pub find-none : (test : ℕ → Bool) (xs : List ℕ) → find test xs ≡ None → (k d : ℕ) → k < length xs → test (get_or xs k d) ≡ false
find-none test [] e k d lt = absurd (omega arith)
find-none test (x ∷ xs) e k d lt = elim (cases_Bool (test x)) [
  | inl t ↦ absurd (some-none x (sym (cond-true (test x) (Some x) (find test xs) t) ∙ e))
  | inr f ↦ none-cons test x xs f (find-none test xs (sym (cond-false (test x) (Some x) (find test xs) f) ∙ e)) k d lt
]

-- the standing orders of a side that pass
abbrev pub standing_that : List Order → Side → (ℕ → Bool) → ℕ → Bool
standing_that orders side test i = is_uncancelled_on side (order_at orders i) && test i

module _ (orders : List Order) (list : IsOrderList orders) (side : Side) (ranks : List ℕ) (ranked : IsRanked orders side ranks) (test : ℕ → Bool) where
  standing : (j : ℕ) → j < length orders → standing_that orders side test j ≡ true → IsUncancelledOn orders side j × (test j ≡ true)
  standing j lt t = let parts = and_parts (is_uncancelled_on side (order_at orders j)) (test j) t in (test-stands orders side j lt parts.0, parts.1)

  first-best : (i : ℕ) → IsFirst test ranks i → IsBest orders (standing_that orders side test) i
  first-best i f =
      let s : IsUncancelledOn orders side i = subst (IsUncancelledOn orders side) (f.here i) (ranked.only f.at i f.inside) in
      record {
        inside = s.inside;
        passes = and_from _ _ (stands-test orders side i s) f.passes;
        none_better = λ j lt t b.
            let st = standing j lt t in
            let c = ranked.each j st.0 in
            let here : get_or ranks c.0 j ≡ j = c.2 in
            elim (cases_order c.0 f.at) [
              | inl e ↦
                  let same : j ≡ i = sym here ∙ ap (λ n. get_or ranks n j) e ∙ f.here j in
                  Better-strict orders i (subst (λ k. Better orders k i) same b)
              | inr ne ↦ elim ne [
                | inl less ↦ both_ways _ (f.before c.0 j less) (subst (λ k. test k ≡ true) (sym here) st.1)
                | inr more ↦
                    let over : Better orders (get_or ranks f.at j) (get_or ranks c.0 j) = ranked.best_first f.at c.0 j more c.1 in
                    let turned : Better orders i j = subst (λ k. Better orders k j) (f.here j) (subst (λ k. Better orders (get_or ranks f.at j) k) here over) in
                    Better-one_way orders i j turned b
              ]
            ];
      }

  -- the first of a ranked list that passes is the best
  pub first-ranked : find test ranks ≡ best_order orders (standing_that orders side test)
  first-ranked = elim (cases_Option (find test ranks)) [
    | inr (i, e) ↦ e ∙ sym (is-best orders list (standing_that orders side test) side (λ k lt t. (standing k lt t).0.of_side) i (first-best i (find-first test ranks i e)))
    | inl none ↦ none ∙ elim (cases_Option (best_order orders (standing_that orders side test))) [
      | inl nothing ↦ sym nothing
      | inr (j, e) ↦
          let b = best-is orders (standing_that orders side test) j e in
          let st = standing j b.inside b.passes in
          let c = ranked.each j st.0 in
          absurd (both_ways _ (find-none test ranks none c.0 j c.1) (subst (λ k. test k ≡ true) (sym c.2) st.1))
    ]
  ]
