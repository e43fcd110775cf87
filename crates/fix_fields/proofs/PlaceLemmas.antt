-- The first of the places at which a byte passes a test.
use Rattle.std.proofs.Common.{◌≡◌, ℕ, zero, suc, ◌+◌, ◌-◌, ◌<◌, Bool, false, Option, Some, None, List, [], ◌∷◌, length, get_or, sym, subst, ap, inl, inr, ◌∙◌, true, arith}
use Rattle.std.specs.Prelude.{MatchOption}
use Rattle.std.proofs.lemmas.Bool.{cases_Bool, cases_lt}
use Rattle.memchr.specs.Find.{IsFirst, IsFirstByte, Nowhere, Passes, TakesFirst, places, places_from}

module _ (test : ℕ → Bool) (hay : List ℕ) where
  -- where a place fails, the first one is that of the places after it
  pub fails-here : (i j : ℕ) → test (get_or hay i 0) ≡ false → Nowhere (Passes test hay) (i + 1) j → Nowhere (Passes test hay) i j
  fails-here i j fails none k low high passes = elim (cases_lt i k) [
    | inl later ↦ none k (omega (arith, later)) high passes
    | inr here ↦
        let same : k ≡ i = omega (arith, low, here) in
        let at : test (get_or hay k 0) ≡ false = ap (λ (n : ℕ). test (get_or hay n 0)) same ∙ fails in cc (passes, at)
  ]

  first-behind : (i j : ℕ) (r : Option ℕ) → test (get_or hay i 0) ≡ false → i < j → IsFirst (Passes test hay) (i + 1) j r → IsFirst (Passes test hay) i j r
  first-behind i j None fails less is = fails-here i j fails is
  first-behind i j (Some k) fails less is =
      let first = is.0 in
      (record { low = omega (arith, first.low); high = first.high; before = fails-here i k fails first.before }, is.1)

  -- the first of these places, if there is one
  pub first-place : (i n : ℕ) (r : Option ℕ) (left : List ℕ) → MatchOption r ((places_from test hay i n ≡ []) × (left ≡ [])) (λ k. places_from test hay i n ≡ k ∷ left)
      → IsFirst (Passes test hay) i (i + n) r
  unfolding places_from
  first-place i zero None left is = λ k low high passes. omega (arith, low, high)
  first-place i zero (Some k) left is = absurd (cc is)
  first-place i (suc n) r left is = elim (cases_Bool (test (get_or hay i 0))) [
    | inl passes ↦ here passes r (rw passes at is)
    | inr fails ↦
        let next : i + 1 + n ≡ i + suc n = omega arith in
        first-behind i (i + suc n) r fails (omega arith) (subst (λ (j : ℕ). IsFirst (Passes test hay) (i + 1) j r) next (first-place (i + 1) n r left (rw fails at is)))
  ]
    where
      here : test (get_or hay i 0) ≡ true → (r : Option ℕ) → MatchOption r ((i ∷ places_from test hay (i + 1) n ≡ []) × (left ≡ [])) (λ k. i ∷ places_from test hay (i + 1) n ≡ k ∷ left)
          → IsFirst (Passes test hay) i (i + suc n) r
      here passes None is = absurd (cc (is.0))
      here passes (Some k) is =
          let same : i ≡ k = cc is in
          (record { low = omega (arith, same); high = omega (arith, same); before = λ m low high _. omega (arith, same, low, high) }, ap (λ (m : ℕ). test (get_or hay m 0)) (sym same) ∙ passes)

-- the first of all places
pub first-of-places : (test : ℕ → Bool) (hay all left : List ℕ) (r : Option ℕ) → all ≡ places test hay → TakesFirst all r left → IsFirstByte test hay r
first-of-places test hay all left r is takes =
    let whole : 0 + (length hay - 0) ≡ length hay = omega arith in
    let steps = subst (λ (xs : List ℕ). TakesFirst xs r left) is takes in
    subst (λ (j : ℕ). IsFirst (Passes test hay) 0 j r) whole (first-place test hay 0 (length hay - 0) r left steps)
