-- The first of several: the least number with a property, and the first answer.
-- Every "first", "least" and "some" of the rules is said by these words.
use Rattle.std.specs.Prelude.{◌<◌, ℕ, zero, suc, Bool, false, ◌||◌, List, [], ◌∷◌, Option, None, Some, if◌then◌else◌}
use Rattle.std.specs.Option.{option_or}

-- n is the least number with the property
pub record IsLeast (P : ℕ → Type 0) (n : ℕ) : Type 0 where
  pub holds : P n
  pub none_below : (k : ℕ) → k < n → P k → ⊥

-- what `answer` gives at the least number below n at which it gives anything
abbrev pub least_answer : {A : Type 0} → (ℕ → Option A) → ℕ → Option A
least_answer answer zero = None
least_answer answer (suc n) = option_or (least_answer answer n) (answer n)

-- the least number below n that passes the test
abbrev pub least_with : (ℕ → Bool) → ℕ → Option ℕ
least_with test n = least_answer (λ k. if test k then Some k else None) n

-- some number below n passes the test
abbrev pub any_below : (ℕ → Bool) → ℕ → Bool
any_below test zero = false
any_below test (suc n) = any_below test n || test n

-- the first of these answers that is there
abbrev pub first_answer : {A : Type 0} → List (Option A) → Option A
first_answer [] = None
first_answer (a ∷ rest) = option_or a (first_answer rest)

-- a value where the test holds, else nothing
abbrev pub only_if : {A : Type 0} → Bool → A → Option A
only_if test a = if test then Some a else None
