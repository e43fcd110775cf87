-- How an incoming size fills the resting orders, by rank and not by place in a list.
use Rattle.std.specs.Prelude.{◌≡◌, ◌≤◌, ◌<◌, ◌-◌, ◌⊎◌, ℕ, Bool, true, false, min, if◌then◌else◌}
use Rattle.audit_base.specs.Sums.{sum_below}

-- a strict total order on the numbers below a count
pub record IsRanking (count : ℕ) (better : ℕ → ℕ → Bool) : Type 0 where
  pub strict : (i : ℕ) → better i i ≡ false
  pub onward : (i j k : ℕ) → i < count → j < count → k < count → better i j ≡ true
      → better j k ≡ true → better i k ≡ true
  pub total : (i j : ℕ) → i < count → j < count → (i ≡ j → ⊥)
      → (better i j ≡ true) ⊎ (better j i ≡ true)

-- numbers within what is left, together at most the size; better ones are whole before worse ones
-- get any; and the size is used up, or all are whole
pub record IsFill (count : ℕ) (better : ℕ → ℕ → Bool) (left : ℕ → ℕ) (size : ℕ)
    (number : ℕ → ℕ) : Type 0 where
  pub within : (i : ℕ) → i < count → number i ≤ left i
  pub most : sum_below number count ≤ size
  pub ranked : (i j : ℕ) → i < count → j < count → better i j ≡ true → 0 < number j
      → number i ≡ left i
  pub whole : (sum_below number count ≡ size) ⊎ ((i : ℕ) → i < count → number i ≡ left i)

-- what the better ones have left
abbrev pub left_of_better : ℕ → (ℕ → ℕ → Bool) → (ℕ → ℕ) → ℕ → ℕ
left_of_better count better left i = sum_below (λ j. if better j i then left j else 0) count

-- the share of the one at i: the smaller of what is left of it,
-- and what the better ones leave of the size
abbrev pub share_by_rank : ℕ → (ℕ → ℕ → Bool) → (ℕ → ℕ) → ℕ → ℕ → ℕ
share_by_rank count better left size i = min (left i) (size - left_of_better count better left i)
