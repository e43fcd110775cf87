-- Sums and lists: what std lacks.
use Rattle.std.proofs.Common.{◌≡◌, ◌≢◌, ◌≤◌, ◌<◌, ◌+◌, ◌⊎◌, ℕ, zero, suc, List, [], ◌∷◌, length, take, get_or, refl, sym, ap, ◌∙◌, arith, sum_by, add-one, All, AllPairs, Bool, true, cond, inl, inr}
use Rattle.std.specs.Prelude.{Contains}
use Rattle.std.proofs.lemmas.List.Sums.{sum_by-cons, sum_by_more}
use Rattle.std.proofs.lemmas.Bool.{cases_eq, cases_Bool}
use Rattle.std.proofs.lemmas.List.Elements.{All-head, All-tail}
use Rattle.audit_base.specs.Sums.{sum_below}

-- Lists by their head and tail.

pub AllPairs-head : {X : Type 0} (R : X → X → Type 0) (x : X) (xs : List X) → AllPairs R (x ∷ xs) → All (R x) xs
AllPairs-head R x xs p = λ k d lt. p 0 (suc k) d (omega arith) (omega arith)

pub AllPairs-tail : {X : Type 0} (R : X → X → Type 0) (x : X) (xs : List X) → AllPairs R (x ∷ xs) → AllPairs R xs
AllPairs-tail R x xs p = λ i j d lt below. p (suc i) (suc j) d (omega arith) (omega arith)

pub Contains-cases : {X : Type 0} (x : X) (xs : List X) (y : X) → Contains (x ∷ xs) y → (x ≡ y) ⊎ Contains xs y
Contains-cases x xs y (zero, lt, e) = inl e
Contains-cases x xs y (suc k, lt, e) = inr (k, (omega arith), e)

pub AllPairs-cons : {X : Type 0} (R : X → X → Type 0) (x : X) (xs : List X) → All (R x) xs → AllPairs R xs → AllPairs R (x ∷ xs)
AllPairs-cons R x xs h p zero zero d lt below = absurd (omega arith)
AllPairs-cons R x xs h p zero (suc j) d lt below = h j d (omega arith)
AllPairs-cons R x xs h p (suc i) zero d lt below = absurd (omega arith)
AllPairs-cons R x xs h p (suc i) (suc j) d lt below = p i j d (omega arith) (omega arith)

pub All-each : {X : Type 0} (P : X → Type 0) (xs : List X) → ((x : X) → P x) → All P xs
All-each P xs h = λ k d below. h _

pub Contains-front : {X : Type 0} (x : X) (xs : List X) → Contains (x ∷ xs) x
Contains-front x xs = (0, omega arith, refl)

pub Contains-behind : {X : Type 0} (x : X) (xs : List X) (y : X) → Contains xs y → Contains (x ∷ xs) y
Contains-behind x xs y (k, lt, e) = (suc k, omega arith, e)

-- Sums over the numbers below a number.

pub below-le : (f g : ℕ → ℕ) (n : ℕ) → ((i : ℕ) → i < n → f i ≤ g i) → sum_below f n ≤ sum_below g n
below-le f g zero h = omega arith
below-le f g (suc n) h =
    let last : f n ≤ g n = h n (omega arith) in
    let rest : sum_below f n ≤ sum_below g n = below-le f g n (λ i lt. h i (omega arith)) in
    omega arith

pub below-add : (f g : ℕ → ℕ) (n : ℕ) → sum_below (λ i. f i + g i) n ≡ sum_below f n + sum_below g n
below-add f g zero = refl
below-add f g (suc n) = let rest = below-add f g n in omega arith

pub term-le-below : (f : ℕ → ℕ) (n i : ℕ) → i < n → f i ≤ sum_below f n
term-le-below f zero i h = absurd (omega arith)
term-le-below f (suc n) i h = elim (cases_eq i n) [
  | inl e ↦ rw e (omega arith)
  | inr ne ↦ omega (arith, term-le-below f n i (omega (arith, ne)))
]

pub below-same : (f g : ℕ → ℕ) (n : ℕ) → ((i : ℕ) → i < n → f i ≡ g i) → sum_below f n ≡ sum_below g n
below-same f g zero h = refl
below-same f g (suc n) h =
    let last : f n ≡ g n = h n (omega arith) in
    let rest : sum_below f n ≡ sum_below g n = below-same f g n (λ i lt. h i (omega arith)) in
    omega arith

-- a sum over the first elements is one over their indices
pub below-list : {X : Type 0} (f : X → ℕ) (xs : List X) (d : X) (n : ℕ) → n ≤ length xs → sum_below (λ i. f (get_or xs i d)) n ≡ sum_by f (take n xs)
below-list f xs d zero h = refl
below-list f xs d (suc n) h =
    let rest : sum_below (λ i. f (get_or xs i d)) n ≡ sum_by f (take n xs) = below-list f xs d n (omega arith) in
    let more : sum_by f (take (n + 1) xs) ≡ sum_by f (take n xs) + f (get_or xs n d) = sum_by_more f xs n d (omega arith) in
    rw (← add-one n) (omega arith)

below-zero : (n : ℕ) → sum_below (λ i. 0) n ≡ 0
below-zero zero = refl
below-zero (suc n) = let rest = below-zero n in omega arith

-- two sums change places
pub sum_by-below : {X : Type 0} (f : X → ℕ → ℕ) (xs : List X) (n : ℕ) → sum_by (λ x. sum_below (f x) n) xs ≡ sum_below (λ i. sum_by (λ x. f x i) xs) n
sum_by-below f [] n = sym (below-zero n)
sum_by-below f (x ∷ xs) n =
    let rest : sum_by (λ y. sum_below (f y) n) xs ≡ sum_below (λ i. sum_by (λ y. f y i) xs) n = sum_by-below f xs n in
    let first : sum_by (λ y. sum_below (f y) n) (x ∷ xs) ≡ sum_below (f x) n + sum_by (λ y. sum_below (f y) n) xs = sum_by-cons (λ y. sum_below (f y) n) x xs in
    let both : sum_below (λ i. f x i + sum_by (λ y. f y i) xs) n ≡ sum_below (f x) n + sum_below (λ i. sum_by (λ y. f y i) xs) n = below-add (f x) (λ i. sum_by (λ y. f y i) xs) n in
    let each : sum_below (λ i. sum_by (λ y. f y i) (x ∷ xs)) n ≡ sum_below (λ i. f x i + sum_by (λ y. f y i) xs) n = below-same _ _ n (λ i lt. sum_by-cons (λ y. f y i) x xs) in
    omega arith

-- a sum of greater terms
pub sum_by-le-All : {X : Type 0} (f g : X → ℕ) (xs : List X) → All (λ x. f x ≤ g x) xs → sum_by f xs ≤ sum_by g xs
sum_by-le-All f g [] h = omega arith
sum_by-le-All f g (x ∷ xs) h =
    let one : f x ≤ g x = All-head (λ x. f x ≤ g x) x xs h in
    let rest : sum_by f xs ≤ sum_by g xs = sum_by-le-All f g xs (All-tail (λ x. f x ≤ g x) x xs h) in
    omega (arith, sum_by-cons f x xs, sum_by-cons g x xs)

-- Sums over lists.

pub sum_by-none : {X : Type 0} (f : X → ℕ) (xs : List X) → All (λ x. f x ≡ 0) xs → sum_by f xs ≡ 0
sum_by-none f [] h = refl
sum_by-none f (x ∷ xs) h =
    let one : f x ≡ 0 = All-head (λ x. f x ≡ 0) x xs h in
    let rest : sum_by f xs ≡ 0 = sum_by-none f xs (All-tail (λ x. f x ≡ 0) x xs h) in
    omega (arith, sum_by-cons f x xs)

-- a sum over distinct numbers of which only one counts
pub once : (f : ℕ → ℕ) (k : ℕ) (xs : List ℕ) → AllPairs (λ i j. i ≢ j) xs → Contains xs k → All (λ i. (i ≡ k) ⊎ (f i ≡ 0)) xs → sum_by f xs ≡ f k
once f k [] apart (n, lt, e) h = absurd (omega arith)
once f k (x ∷ xs) apart has h =
    let tail = All-tail (λ i. (i ≡ k) ⊎ (f i ≡ 0)) x xs h in
    let first = sum_by-cons f x xs in
    elim (cases_eq x k) [
      | inl e ↦
          let zeros : All (λ i. f i ≡ 0) xs = (λ n d lt. elim (tail n d lt) [ inl same ↦ absurd (AllPairs-head (λ i j. i ≢ j) x xs apart n d lt (e ∙ sym same)) | inr none ↦ none ]) in
          let none : sum_by f xs ≡ 0 = sum_by-none f xs zeros in
          let same : f x ≡ f k = ap f e in
          omega (arith, first)
      | inr ne ↦
          let none : f x ≡ 0 = elim (All-head (λ i. (i ≡ k) ⊎ (f i ≡ 0)) x xs h) [ inl e ↦ absurd (ne e) | inr z ↦ z ] in
          let inside : Contains xs k = elim (Contains-cases x xs k has) [ inl e ↦ absurd (ne e) | inr c ↦ c ] in
          let rest : sum_by f xs ≡ f k = once f k xs (AllPairs-tail (λ i j. i ≢ j) x xs apart) inside tail in
          omega (arith, first)
    ]

pub sum_by-add : {X : Type 0} (f g : X → ℕ) (xs : List X) → sum_by (λ x. f x + g x) xs ≡ sum_by f xs + sum_by g xs
sum_by-add f g [] = refl
sum_by-add f g (x ∷ xs) =
    let rest : sum_by (λ x. f x + g x) xs ≡ sum_by f xs + sum_by g xs = sum_by-add f g xs in
    omega (arith, sum_by-cons f x xs, sum_by-cons g x xs, sum_by-cons (λ x. f x + g x) x xs)

pub sum_by-same : {X : Type 0} (f g : X → ℕ) (xs : List X) → All (λ x. f x ≡ g x) xs → sum_by f xs ≡ sum_by g xs
sum_by-same f g [] h = refl
sum_by-same f g (x ∷ xs) h =
    let one : f x ≡ g x = All-head (λ x. f x ≡ g x) x xs h in
    let rest : sum_by f xs ≡ sum_by g xs = sum_by-same f g xs (All-tail (λ x. f x ≡ g x) x xs h) in
    omega (arith, sum_by-cons f x xs, sum_by-cons g x xs)

-- two sums over lists change places
pub sums-swap : {X Y : Type 0} (f : X → Y → ℕ) (xs : List X) (ys : List Y) → sum_by (λ x. sum_by (f x) ys) xs ≡ sum_by (λ y. sum_by (λ x. f x y) xs) ys
sums-swap f [] ys = sym (sum_by-none (λ y. 0) ys (λ k d lt. refl))
sums-swap f (x ∷ xs) ys =
    let rest : sum_by (λ z. sum_by (f z) ys) xs ≡ sum_by (λ y. sum_by (λ z. f z y) xs) ys = sums-swap f xs ys in
    let first = sum_by-cons (λ z. sum_by (f z) ys) x xs in
    let plus : sum_by (λ y. f x y + sum_by (λ z. f z y) xs) ys ≡ sum_by (f x) ys + sum_by (λ y. sum_by (λ z. f z y) xs) ys = sum_by-add (f x) (λ y. sum_by (λ z. f z y) xs) ys in
    let each : sum_by (λ y. sum_by (λ z. f z y) (x ∷ xs)) ys ≡ sum_by (λ y. f x y + sum_by (λ z. f z y) xs) ys = sum_by-same (λ y. sum_by (λ z. f z y) (x ∷ xs)) (λ y. f x y + sum_by (λ z. f z y) xs) ys (λ k d lt. sum_by-cons (λ z. f z (get_or ys k d)) x xs) in
    omega arith

-- a sum of parts above 0 has a part that counts
pub some_part : {X : Type 0} (P : X → Type 0) (test : X → Bool) (f : X → ℕ) (xs : List X) → All P xs → 0 < sum_by (λ x. cond (test x) (f x) 0) xs
    → (x : X) × (P x) × (test x ≡ true)
some_part P test f [] h more = absurd (omega arith)
some_part P test f (x ∷ xs) h more = elim (cases_Bool (test x)) [
  | inl t ↦ (x, All-head P x xs h, t)
  | inr t ↦
      let z : cond (test x) (f x) 0 ≡ 0 = rw t refl in
      some_part P test f xs (All-tail P x xs h) (omega (arith, sum_by-cons (λ x. cond (test x) (f x) 0) x xs))
]

-- a sum of terms of which none, or only one, counts
pub below-none : (f : ℕ → ℕ) (n : ℕ) → ((i : ℕ) → i < n → f i ≡ 0) → sum_below f n ≡ 0
below-none f zero none = refl
below-none f (suc n) none = let last : f n ≡ 0 = none n (omega arith) in let rest : sum_below f n ≡ 0 = below-none f n (λ i h. none i (omega arith)) in omega arith

pub below-single : (f : ℕ → ℕ) (n k : ℕ) → k < n → ((i : ℕ) → i < n → (i ≡ k → ⊥) → f i ≡ 0) → sum_below f n ≡ f k
below-single f zero k h none = absurd (omega arith)
below-single f (suc n) k h none = elim (cases_eq n k) [
  | inl e ↦ let rest : sum_below f n ≡ 0 = below-none f n (λ i hi. none i (omega arith) (λ e'. omega arith)) in let same : f n ≡ f k = ap f e in omega arith
  | inr ne ↦ let last : f n ≡ 0 = none n (omega arith) ne in let rest : sum_below f n ≡ f k = below-single f n k (omega (arith, ne)) (λ i hi d. none i (omega arith) d) in omega arith
]
