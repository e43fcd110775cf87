-- A place among places that rise, looked for by halves.
use Rattle.std.proofs.Common.{◌≡◌, ◌<◌, ◌≤◌, ◌+◌, inl, inr, refl, subst, ℕ, List, [], ◌∷◌, zero, suc, length, arith, Some, None}
use Rattle.std.specs.Prelude.{◌==◌, map, slice_get, slice_index}
use Rattle.std.proofs.lemmas.List.{length-map}
use Rattle.std.proofs.lemmas.Bool.{cases_lt, eq-eqb, ne_eqb}
use Rattle.audit_base.proofs.LeastLemmas.{with-at, with-found, with-none}
use Rattle.symbol_offences.specs.Quotes.{index_with_place, record_at}
use Rattle.symbol_offences.specs.SymbolBeforeRule.{ArePlacesRising, places_of_records}

-- The place is at none of the indices below the first and from the last on.
pub record IsBetween (places : List ℕ) (place from to : ℕ) : Type 0 where
  pub rising : ArePlacesRising places
  pub ordered : from ≤ to
  pub within : to ≤ length places
  pub before : (i : ℕ) → i < from → slice_index places i < place
  pub behind : (i : ℕ) → to ≤ i → i < length places → place < slice_index places i

module _ (places : List ℕ) (place : ℕ) where
  pub between-all : (n : ℕ) → n ≡ length places → ArePlacesRising places → IsBetween places place 0 n
  between-all n is rising = record {
    rising = rising;
    ordered = omega arith;
    within = omega (arith, is);
    before = λ i lt. absurd (omega (arith, lt));
    behind = λ i le lt. absurd (omega (arith, is, le, lt));
  }

  -- the half behind an index whose place is smaller
  pub half-behind : (from to middle : ℕ) → IsBetween places place from to → middle < to → slice_index places middle < place → IsBetween places place (middle + 1) to
  half-behind from to middle is lt smaller = record {
    rising = is.rising;
    ordered = omega (arith, lt);
    within = is.within;
    before = before;
    behind = is.behind;
  }
    where
      before : (i : ℕ) → i < middle + 1 → slice_index places i < place
      before i less = elim (cases_lt i middle) as (λ _. slice_index places i < place) [
        | inl earlier ↦
            let rises : slice_index places i < slice_index places middle = is.rising i middle 0 earlier (omega (arith, lt, is.within)) in
            omega (arith, rises, smaller)
        | inr le ↦ let same : middle ≡ i = omega (arith, less, le) in subst (λ (k : ℕ). slice_index places k < place) same smaller
      ]

  -- the half before an index whose place is greater
  pub half-before : (from to middle : ℕ) → IsBetween places place from to → from ≤ middle → middle < to → place < slice_index places middle → IsBetween places place from middle
  half-before from to middle is le lt greater = record {
    rising = is.rising;
    ordered = le;
    within = omega (arith, lt, is.within);
    before = is.before;
    behind = behind;
  }
    where
      behind : (i : ℕ) → middle ≤ i → i < length places → place < slice_index places i
      behind i later below = elim (cases_lt middle i) as (λ _. place < slice_index places i) [
        | inl less ↦
            let rises : slice_index places middle < slice_index places i = is.rising middle i 0 less below in
            omega (arith, rises, greater)
        | inr more ↦ let same : middle ≡ i = omega (arith, later, more) in subst (λ (k : ℕ). place < slice_index places k) same greater
      ]

  pub place-found : (middle : ℕ) → ArePlacesRising places → middle < length places → slice_index places middle ≡ place → index_with_place places place ≡ Some middle
  place-found middle rising lt there =
      with-at (λ i. slice_index places i == place) (length places) middle lt (eq-eqb (slice_index places middle) place there)
      (λ j less. ne_eqb (slice_index places j) place (λ e.
      let rises : slice_index places j < slice_index places middle = rising j middle 0 less lt in
      omega (arith, rises, e, there)))

  pub no-place : (from to : ℕ) → IsBetween places place from to → to ≤ from → index_with_place places place ≡ None
  no-place from to is done =
      with-none (λ i. slice_index places i == place) (length places)
      (λ k lt. ne_eqb (slice_index places k) place (apart k lt))
    where
      apart : (k : ℕ) → k < length places → slice_index places k ≡ place → ⊥
      apart k lt e = elim (cases_lt k from) as (λ _. ⊥) [
        | inl less ↦ omega (arith, is.before k less, e)
        | inr more ↦ omega (arith, is.behind k (omega (arith, done, more)) lt, e)
      ]

-- The places of members.

pub place-of-member : {X : Type 0} (f : X → ℕ) (xs : List X) (i : ℕ) (x : X) → slice_get xs i ≡ Some x → slice_index (map f xs) i ≡ f x
place-of-member f [] i x got = absurd (cc)
place-of-member f (y ∷ ys) zero x got = cc
place-of-member f (y ∷ ys) (suc i) x got = place-of-member f ys i x got

-- an index that was found is one of the members
pub index-within : {X : Type 0} (f : X → ℕ) (xs : List X) (place i : ℕ) → index_with_place (map f xs) place ≡ Some i → i < length xs
index-within f xs place i found =
    omega (arith, (with-found (λ k. slice_index (map f xs) k == place) (length (map f xs)) i found).0, length-map xs f)

-- the record at the index that was found
pub record-found : {R : Type 0} (listed : List (ℕ × R)) (place i : ℕ) (e : ℕ × R) → index_with_place (places_of_records listed) place ≡ Some i → slice_get listed i ≡ Some e → record_at listed place ≡ Some e.1
record-found listed place i e found got = rw (found, got) refl

pub record-none : {R : Type 0} (listed : List (ℕ × R)) (place : ℕ) → index_with_place (places_of_records listed) place ≡ None → record_at listed place ≡ None
record-none listed place none = rw none refl
