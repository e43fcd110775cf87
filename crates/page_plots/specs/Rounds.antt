-- Round numbers: 1, 2 or 5 times a power of ten.
use Rattle.std.specs.Prelude.{◌≡◌, ◌≤◌, ◌*◌, ◌^◌, ◌⊎◌, ℕ}

-- the number is 1, 2 or 5 times this power of ten
abbrev pub IsRoundOf : ℕ → ℕ → Type 0
IsRoundOf power number =
    (number ≡ 10 ^ power) ⊎ (number ≡ 2 * 10 ^ power) ⊎ (number ≡ 5 * 10 ^ power)

-- the number is round
pub record IsRound (number : ℕ) : Type 0 where
  pub power : ℕ
  pub is : IsRoundOf power number

-- the least round number of which so many reach the span
pub record IsLeastRound (span most number : ℕ) : Type 0 where
  pub round : IsRound number
  pub reaches : span ≤ most * number
  pub least : (other : ℕ) → IsRound other → span ≤ most * other → number ≤ other
