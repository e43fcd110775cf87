-- The first number that passes a test, and the first answer.
use Rattle.std.proofs.Common.{◌≡◌, ◌<◌, ◌≤◌, ◌⊎◌, ℕ, zero, suc, Bool, true, false, Option, None, Some, refl, sym, ap, ◌∙◌, inl, inr, arith}
use Rattle.std.specs.Prelude.{◌&&◌, is_some, ◌||◌, if◌then◌else◌}
use Rattle.std.specs.Option.{option_or}
use Rattle.std.proofs.lemmas.Bool.{cases_eq, cases_Bool, false_from_ne_true}
use Rattle.std.proofs.lemmas.Map.Entries.{option_filter}
use Rattle.audit_base.specs.Least.{least_answer, least_with, any_below}

-- answers that agree below n have the same first answer there
pub least_answer-same : {A : Type 0} (f g : ℕ → Option A) (n : ℕ) → ((k : ℕ) → k < n → f k ≡ g k) → least_answer f n ≡ least_answer g n
least_answer-same f g zero same = refl
least_answer-same f g (suc n) same =
    let before : least_answer f n ≡ least_answer g n = least_answer-same f g n (λ k lt. same k (omega arith)) in
    let here : f n ≡ g n = same n (omega arith) in
    cc

pub least_with-same : (p q : ℕ → Bool) (n : ℕ) → ((k : ℕ) → k < n → p k ≡ q k) → least_with p n ≡ least_with q n
least_with-same p q n same =
    least_answer-same (λ k. if p k then Some k else None) (λ k. if q k then Some k else None) n
    (λ k lt. ap (λ (b : Bool). if b then Some k else None) (same k lt))

-- an answer that is there stays the first one
pub option_or-some : {A : Type 0} (o p : Option A) (a : A) → o ≡ Some a → option_or o p ≡ Some a
option_or-some o p a e = rw e refl

pub option_or-none : {A : Type 0} (o p : Option A) → o ≡ None → option_or o p ≡ p
option_or-none o p e = rw e refl

pub option_or-parts : {A : Type 0} (o p : Option A) → option_or o p ≡ None → (o ≡ None) × (p ≡ None)
option_or-parts None p e = (refl, e)
option_or-parts (Some x) p e = cc

pub option_or-is : {A : Type 0} (o p : Option A) (a : A) → option_or o p ≡ Some a → (o ≡ Some a) ⊎ ((o ≡ None) × (p ≡ Some a))
option_or-is None p a e = inr (refl, e)
option_or-is (Some x) p a e = inl e

pub option_or-nothing : {A : Type 0} (o : Option A) → option_or o None ≡ o
option_or-nothing None = refl
option_or-nothing (Some x) = refl

pub least_answer-stays : {A : Type 0} (f : ℕ → Option A) (n m : ℕ) (a : A) → least_answer f n ≡ Some a → n ≤ m → least_answer f m ≡ Some a
least_answer-stays f n zero a e le = let z : n ≡ 0 = omega arith in rw z at e
least_answer-stays f n (suc m) a e le = elim (cases_eq n (suc m)) [
  | inl same ↦ rw same at e
  | inr apart ↦ option_or-some (least_answer f m) (f m) a (least_answer-stays f n m a e (omega arith))
]

-- nothing below n answers
pub least_answer-none : {A : Type 0} (f : ℕ → Option A) (n k : ℕ) → least_answer f n ≡ None → k < n → f k ≡ None
least_answer-none f zero k e lt = absurd (omega arith)
least_answer-none f (suc n) k e lt =
    let parts = option_or-parts (least_answer f n) (f n) e in
    elim (cases_eq k n) [
      | inl same ↦ rw same parts.1
      | inr apart ↦ least_answer-none f n k parts.0 (omega arith)
    ]

-- the test of a number, as an answer
pub passing-some : (b : Bool) (k j : ℕ) → (if b then Some k else None) ≡ Some j → (b ≡ true) × (k ≡ j)
passing-some true k j e = (refl, cc)
passing-some false k j e = cc

pub passing-none : (b : Bool) (k : ℕ) → (if b then Some k else None) ≡ None → b ≡ false
passing-none true k e = cc
passing-none false k e = refl

-- the first number that passes
pub record IsFirst (p : ℕ → Bool) (n j : ℕ) : Type 0 where
  pub within : j < n
  pub passes : p j ≡ true
  pub before : (i : ℕ) → i < j → p i ≡ false

pub least_with-none : (p : ℕ → Bool) (n : ℕ) → least_with p n ≡ None → (k : ℕ) → k < n → p k ≡ false
least_with-none p n e k lt = passing-none (p k) k (least_answer-none (λ k. if p k then Some k else None) n k e lt)

pub least_with-some : (p : ℕ → Bool) (n j : ℕ) → least_with p n ≡ Some j → IsFirst p n j
least_with-some p zero j e = cc
least_with-some p (suc n) j e = elim (option_or-is (least_with p n) (if p n then Some n else None) j e) [
  | inl before ↦ let first = least_with-some p n j before in record { within = omega (arith, first.within); passes = first.passes; before = first.before }
  | inr here ↦ let parts = passing-some (p n) n j here.1 in
      record { within = omega (arith, parts.1); passes = rw (← parts.1) parts.0; before = λ i lt. least_with-none p n here.0 i (omega (arith, parts.1)) }
]

pub least_with-from_none : (p : ℕ → Bool) (n : ℕ) → ((k : ℕ) → k < n → p k ≡ false) → least_with p n ≡ None
least_with-from_none p zero none = refl
least_with-from_none p (suc n) none =
    let before : least_with p n ≡ None = least_with-from_none p n (λ k lt. none k (omega arith)) in
    let here : p n ≡ false = none n (omega arith) in
    rw (before, here) refl

pub least_with-from_first : (p : ℕ → Bool) (n j : ℕ) → IsFirst p n j → least_with p n ≡ Some j
least_with-from_first p zero j first = absurd (omega (arith, first.within))
least_with-from_first p (suc n) j first = elim (cases_eq j n) [
  | inl same ↦
      let before : least_with p n ≡ None = least_with-from_none p n (λ k lt. first.before k (omega arith)) in
      let here : p n ≡ true = rw (← same) first.passes in
      rw (before, here) (ap (λ (k : ℕ). Some k) (sym same))
  | inr apart ↦
      option_or-some (least_with p n) _ j (least_with-from_first p n j (record { within = omega (arith, first.within); passes = first.passes; before = first.before }))
]

-- some number below n passes where there is a first one
pub any_below-is : (p : ℕ → Bool) (n : ℕ) → any_below p n ≡ is_some (least_with p n)
any_below-is p zero = refl
any_below-is p (suc n) = rw (any_below-is p n) (some-or (least_with p n) (p n) n)
  where
    some-or : (o : Option ℕ) (b : Bool) (k : ℕ) → (is_some o || b) ≡ is_some (option_or o (if b then Some k else None))
    some-or None true k = refl
    some-or None false k = refl
    some-or (Some x) b k = refl

pub any_below-same : (p q : ℕ → Bool) (n : ℕ) → ((k : ℕ) → k < n → p k ≡ q k) → any_below p n ≡ any_below q n
any_below-same p q zero same = refl
any_below-same p q (suc n) same =
    let before : any_below p n ≡ any_below q n = any_below-same p q n (λ k lt. same k (omega arith)) in
    let here : p n ≡ q n = same n (omega arith) in
    cc

-- where at most one number passes p, the first that passes p and q is that one, if it passes q
pub least_with-both : (p q : ℕ → Bool) (n : ℕ) → ((i j : ℕ) → i < j → j < n → p i ≡ true → p j ≡ true → ⊥) → least_with (λ j. p j && q j) n ≡ option_filter q (least_with p n)
least_with-both p q zero one = refl
least_with-both p q (suc n) one =
    let before : least_with (λ j. p j && q j) n ≡ option_filter q (least_with p n) = least_with-both p q n (λ i j lt within a b. one i j lt (omega arith) a b) in
    elim (cases_Bool (p n)) [
      | inl passing ↦
          let none : least_with p n ≡ None = least_with-from_none p n (λ k lt. false_from_ne_true (p k) (λ passes. one k n lt (omega arith) passes passing)) in
          rw (before, none, passing) refl
      | inr failing ↦ rw (before, failing) (option_or-nothing (option_filter q (least_with p n)) ∙ ap (option_filter q) (sym (option_or-nothing (least_with p n))))
    ]
