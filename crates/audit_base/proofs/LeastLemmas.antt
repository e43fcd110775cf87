-- What the first answer, the least number and `any_below` give.
use Rattle.std.proofs.Common.{◌≡◌, ◌<◌, ◌⊎◌, ℕ, zero, suc, Bool, true, false, cond, Option, Some, None, refl, sym, ◌∙◌, arith, inl, inr, subst}
use Rattle.std.specs.Option.{option_or}
use Rattle.std.proofs.lemmas.Bool.{cases_Bool, cases_eq, or_cases, or_left, or_right, or_from, both_ways}
use Rattle.audit_base.specs.Least.{IsLeast, least_answer, least_with, any_below}

pub cases_Option : {A : Type 0} (o : Option A) → (o ≡ None) ⊎ ((x : A) × (o ≡ Some x))
cases_Option None = inl refl
cases_Option (Some x) = inr (x, refl)

pub none_some : {A B : Type 0} (o : Option A) (x : A) → o ≡ None → o ≡ Some x → B
none_some None x e f = absurd (cc)
none_some (Some y) x e f = absurd (cc)

-- there is one least number with a property
pub one-least : (P : ℕ → Type 0) (a b : ℕ) → IsLeast P a → IsLeast P b → a ≡ b
one-least P a b x y =
    let at_least : a < b → ⊥ = λ lt. y.none_below a lt x.holds in
    let at_most : b < a → ⊥ = λ lt. x.none_below b lt y.holds in
    omega arith

or-none : {A : Type 0} (o p : Option A) → option_or o p ≡ None → (o ≡ None) × (p ≡ None)
or-none None p e = (refl, e)
or-none (Some x) p e = cc

or-some : {A : Type 0} (o p : Option A) (x : A) → option_or o p ≡ Some x → (o ≡ Some x) ⊎ ((o ≡ None) × (p ≡ Some x))
or-some None p x e = inr (refl, e)
or-some (Some y) p x e = inl e

pub option_or-none : {A : Type 0} (o p : Option A) → o ≡ None → option_or o p ≡ p
option_or-none None p e = refl
option_or-none (Some x) p e = cc

pub option_or-some : {A : Type 0} (o p : Option A) (x : A) → o ≡ Some x → option_or o p ≡ Some x
option_or-some None p x e = cc
option_or-some (Some y) p x e = e

pub option_or-parts : {A : Type 0} (o p : Option A) → option_or o p ≡ None → (o ≡ None) × (p ≡ None)
option_or-parts = or-none

pub option_or-cases : {A : Type 0} (o p : Option A) (x : A) → option_or o p ≡ Some x → (o ≡ Some x) ⊎ ((o ≡ None) × (p ≡ Some x))
option_or-cases = or-some

module _ {A : Type 0} (f : ℕ → Option A) where
  -- no answer below n, step by step
  pub least-none_more : (n : ℕ) → least_answer f n ≡ None → f n ≡ None → least_answer f (suc n) ≡ None
  least-none_more n before here = option_or-none (least_answer f n) (f n) before ∙ here

  pub least-none : (n : ℕ) → ((k : ℕ) → k < n → f k ≡ None) → least_answer f n ≡ None
  least-none zero h = refl
  least-none (suc n) h = least-none_more n (least-none n (λ k lt. h k (omega arith))) (h n (omega arith))

  pub none-below : (n : ℕ) → least_answer f n ≡ None → (k : ℕ) → k < n → f k ≡ None
  none-below zero e k lt = absurd (omega arith)
  none-below (suc n) e k lt =
      let p = or-none (least_answer f n) (f n) e in
      elim (cases_eq k n) [
        | inl same ↦ subst (λ i. f i ≡ None) (sym same) p.1
        | inr ne ↦ none-below n p.0 k (omega (arith, ne))
      ]

  -- an answer at k, and none below it
  pub least-at : (n k : ℕ) (x : A) → k < n → least_answer f k ≡ None → f k ≡ Some x → least_answer f n ≡ Some x
  least-at zero k x lt before here = absurd (omega arith)
  least-at (suc n) k x lt before here = elim (cases_eq k n) [
    | inl same ↦ option_or-none (least_answer f n) (f n) (subst (λ i. least_answer f i ≡ None) same before) ∙ subst (λ i. f i ≡ Some x) same here
    | inr ne ↦ option_or-some (least_answer f n) (f n) x (least-at n k x (omega (arith, ne)) before here)
  ]

  pub least-found : (n : ℕ) (x : A) → least_answer f n ≡ Some x → (k : ℕ) × (k < n) × (f k ≡ Some x) × (least_answer f k ≡ None)
  least-found zero x e = cc
  least-found (suc n) x e = elim (or-some (least_answer f n) (f n) x e) [
    | inl earlier ↦ let r = least-found n x earlier in (r.0, omega (arith, r.1), r.2, r.3)
    | inr here ↦ (n, omega arith, here.1, here.0)
  ]

pub any-at : (test : ℕ → Bool) (n k : ℕ) → k < n → test k ≡ true → any_below test n ≡ true
any-at test zero k lt t = absurd (omega arith)
any-at test (suc n) k lt t = elim (cases_eq k n) [
  | inl same ↦ or_right (any_below test n) (test n) (subst (λ i. test i ≡ true) same t)
  | inr ne ↦ or_left (any_below test n) (test n) (any-at test n k (omega (arith, ne)) t)
]

pub any-none : (test : ℕ → Bool) (n : ℕ) → ((k : ℕ) → k < n → test k ≡ false) → any_below test n ≡ false
any-none test zero h = refl
any-none test (suc n) h = or_from _ _ (any-none test n (λ k lt. h k (omega arith))) (h n (omega arith))

pub none-any : (test : ℕ → Bool) (n : ℕ) → any_below test n ≡ false → (k : ℕ) → k < n → test k ≡ false
none-any test n e k lt = elim (cases_Bool (test k)) [
  | inl t ↦ absurd (both_ways _ e (any-at test n k lt t))
  | inr t ↦ t
]

pub any-found : (test : ℕ → Bool) (n : ℕ) → any_below test n ≡ true → (k : ℕ) × (k < n) × (test k ≡ true)
any-found test zero e = cc
any-found test (suc n) e = elim (or_cases (any_below test n) (test n) e) [
  | inl earlier ↦ let r = any-found test n earlier in (r.0, omega (arith, r.1), r.2)
  | inr here ↦ (n, omega arith, here)
]

only-some : (b : Bool) (k x : ℕ) → cond b (Some k) None ≡ Some x → (b ≡ true) × (k ≡ x)
only-some true k x e = (refl, cc)
only-some false k x e = cc

only-none : (b : Bool) (k : ℕ) → cond b (Some k) None ≡ None → b ≡ false
only-none true k e = cc
only-none false k e = refl

-- the least number that passes a test
pub with-found : (test : ℕ → Bool) (n k : ℕ) → least_with test n ≡ Some k → (k < n) × (test k ≡ true) × ((j : ℕ) → j < k → test j ≡ false)
with-found test n k e =
    let f = λ (i : ℕ). cond (test i) (Some i) None in
    let r = least-found f n k e in
    let at = only-some (test r.0) r.0 k r.2 in
    let same = at.1 in
    (omega (arith, r.1, same), subst (λ i. test i ≡ true) same at.0, λ j lt. only-none (test j) j (none-below f r.0 r.3 j (omega (arith, same))))

pub with-exists : (test : ℕ → Bool) (n k : ℕ) → k < n → test k ≡ true → (i : ℕ) × (least_with test n ≡ Some i)
with-exists test n k lt t = elim (cases_Option (least_with test n)) [
  | inl none ↦ absurd (both_ways _ (only-none (test k) k (none-below (λ (i : ℕ). cond (test i) (Some i) None) n none k lt)) t)
  | inr some ↦ some
]

pub with-at : (test : ℕ → Bool) (n k : ℕ) → k < n → test k ≡ true → ((j : ℕ) → j < k → test j ≡ false) → least_with test n ≡ Some k
with-at test n k lt t h =
    let f = λ (i : ℕ). cond (test i) (Some i) None in
    least-at f n k k lt (least-none f k (λ j below. rw (h j below) refl)) (rw t refl)

pub with-none : (test : ℕ → Bool) (n : ℕ) → ((k : ℕ) → k < n → test k ≡ false) → least_with test n ≡ None
with-none test n h = least-none (λ (i : ℕ). cond (test i) (Some i) None) n (λ j below. rw (h j below) refl)

pub none-with : (test : ℕ → Bool) (n : ℕ) → least_with test n ≡ None → (k : ℕ) → k < n → test k ≡ false
none-with test n e k lt = only-none (test k) k (none-below (λ (i : ℕ). cond (test i) (Some i) None) n e k lt)
