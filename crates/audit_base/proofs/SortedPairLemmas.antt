-- Pairs of a bid and an ask, of any type, that are sorted by the bid, then by the ask.
use Rattle.std.proofs.Common.{◌≡◌, ◌<◌, ◌+◌, ◌⊎◌, ℕ, zero, suc, Bool, false, List, length, get_or, sym, ◌∙◌, arith, inl, inr, AllPairs, IsPermutation, subst, add-one, Ordering, Less, Equal, is_lt, nat_cmp, eqb}
use Rattle.std.specs.Prelude.{◌&&◌}
use Rattle.std.specs.Ordering.{ordering_then}
use Rattle.std.specs.Cmp.{nat_cmp_is}
use Rattle.std.specs.List.{IsDistinct}
use Rattle.std.proofs.lemmas.Bool.{cases_eq, cases_order, and_parts, and_from, eqb-true, eq-eqb, true≢false, both_ways, false_from_ne_true}
use Rattle.std.proofs.lemmas.Map.Keys.{IsDistinct-from_apart, apart_from_distinct, IsDistinct-IsPermutation}

-- neighbours in a transitive order, so all in order
neighbours-all : {X : Type 0} (R : X → X → Type 0) → ((a b c : X) → R a b → R b c → R a c) → (xs : List X) → ((k : ℕ) (d : X) → k + 1 < length xs → R (get_or xs k d) (get_or xs (k + 1) d)) → AllPairs R xs
neighbours-all R onward xs near i zero d lt below = absurd (omega arith)
neighbours-all R onward xs near i (suc j) d lt below =
    let step : R (get_or xs j d) (get_or xs (suc j) d) = subst (λ n. R (get_or xs j d) (get_or xs n d)) (add-one j) (near j d (omega arith)) in
    elim (cases_eq i j) [
      | inl e ↦ subst (λ n. R (get_or xs n d) (get_or xs (suc j) d)) (sym e) step
      | inr ne ↦ onward (get_or xs i d) (get_or xs j d) (get_or xs (suc j) d) (neighbours-all R onward xs near i j d (omega (arith, ne)) (omega arith)) step
    ]

ordered : (x y : ℕ) (o : Ordering) → is_lt (ordering_then (nat_cmp x y) o) ≡ false → (y < x) ⊎ ((x ≡ y) × (is_lt o ≡ false))
ordered x y o h = elim (cases_order x y) [
  | inl e ↦ inr (e, subst (λ c. is_lt (ordering_then c o) ≡ false) (sym (nat_cmp_is x y Equal e)) h)
  | inr (inl lt) ↦ absurd (true≢false (subst (λ c. is_lt (ordering_then c o) ≡ false) (sym (nat_cmp_is x y Less lt)) h))
  | inr (inr gt) ↦ inl gt
]

module _ {X : Type 0} (bid ask quantity : X → ℕ) where
  -- two pairs differ in the bid or in the ask
  abbrev pub Differ : X → X → Type 0
  Differ p q = (bid p ≡ bid q) → (ask p ≡ ask q) → ⊥

  -- a pair is before another: by the bid, and then by the ask
  abbrev pub Before : X → X → Type 0
  Before p q = (bid p < bid q) ⊎ ((bid p ≡ bid q) × (ask p < ask q))

  -- how pairs compare
  abbrev pub compared : X → X → Ordering
  compared p q = ordering_then (nat_cmp (bid p) (bid q)) (ordering_then (nat_cmp (ask p) (ask q)) (nat_cmp (quantity p) (quantity q)))

  -- the test that two pairs are of one bid and ask
  abbrev same_ends : X → X → Bool
  same_ends p q = eqb (bid p) (bid q) && eqb (ask p) (ask q)

  same_ends-flips : (p q : X) → same_ends p q ≡ same_ends q p
  same_ends-flips p q = flips (bid p) (ask p) (bid q) (ask q)
    where
      flips : (a b c d : ℕ) → (eqb a c && eqb b d) ≡ (eqb c a && eqb d b)
      flips a b c d = grind arith

  -- pairs of which no two are of one bid and ask stay so in another order
  differ-moved : (xs ys : List X) → IsPermutation xs ys → AllPairs Differ xs → AllPairs Differ ys
  differ-moved xs ys moved h i j d lt below e f =
      let apart : IsDistinct same_ends xs = IsDistinct-from_apart same_ends xs (λ i j d lt below. false_from_ne_true _ (λ t.
      let both = and_parts _ _ t in
      h i j d lt below (eqb-true _ _ both.0) (eqb-true _ _ both.1))) in
      both_ways _ (apart_from_distinct same_ends ys i j d (IsDistinct-IsPermutation same_ends same_ends-flips xs ys moved apart) lt below) (and_from _ _ (eq-eqb _ _ e) (eq-eqb _ _ f))

  before-or-same : (p q : X) → is_lt (compared q p) ≡ false → Differ p q → Before p q
  before-or-same p q h differ = elim (ordered (bid q) (bid p) (ordering_then (nat_cmp (ask q) (ask p)) (nat_cmp (quantity q) (quantity p))) h) [
    | inl lt ↦ inl lt
    | inr (e, rest) ↦ elim (ordered (ask q) (ask p) (nat_cmp (quantity q) (quantity p)) rest) [
      | inl lt ↦ inr (sym e, lt)
      | inr (f, last) ↦ absurd (differ (sym e) (sym f))
    ]
  ]

  before-onward : (p q r : X) → Before p q → Before q r → Before p r
  before-onward p q r (inl a) (inl b) = inl (omega arith)
  before-onward p q r (inl a) (inr b) = let e = b.0 in inl (omega arith)
  before-onward p q r (inr a) (inl b) = let e = a.0 in inl (omega arith)
  before-onward p q r (inr a) (inr b) = let lt = a.1 in let lt' = b.1 in inr (a.0 ∙ b.0, omega arith)

  -- sorted pairs of which no two are of one bid and ask are in order
  pub sorted-in_order : (xs ys : List X) → IsPermutation xs ys → AllPairs Differ xs → ((k : ℕ) (d : X) → k + 1 < length ys → is_lt (compared (get_or ys (k + 1) d) (get_or ys k d)) ≡ false) → AllPairs Before ys
  sorted-in_order xs ys moved differ sorted =
      neighbours-all Before before-onward ys (λ k d lt. before-or-same (get_or ys k d) (get_or ys (k + 1) d) (sorted k d lt) (differ-moved xs ys moved differ k (k + 1) d (omega arith) lt))
