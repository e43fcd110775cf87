-- What the search for a power of ten and the marks so far keep from step to step.
use Rattle.std.specs.Prelude.{◌≡◌, ◌<◌, ◌≤◌, ◌+◌, ◌*◌, ◌^◌, ℕ, suc, List, All, AllPairs, Contains}

-- the least power of ten of which five times so many reach the span
pub record IsLeastPower (span most number : ℕ) : Type 0 where
  pub power : ℕ
  pub is : number ≡ 10 ^ power
  pub reaches : span ≤ most * 5 * number
  pub least : (lower : ℕ) → power ≡ suc lower → most * 5 * 10 ^ lower < span

-- a power of ten of which every lower one is too small, and which is above 0 and not too great
pub record IsPowerSoFar (span most number : ℕ) : Type 0 where
  pub power : ℕ
  pub is : number ≡ 10 ^ power
  pub some : 0 < number
  pub bounded : number ≤ 10 * span + 1
  pub least : (lower : ℕ) → power ≡ suc lower → most * 5 * 10 ^ lower < span

-- these are the multiples of a step from the first number to the last that are below so many times
-- the step, each once, from the least on
pub record AreTicksSoFar (first last step times : ℕ) (ticks : List ℕ) : Type 0 where
  pub multiples : All (λ tick. (of : ℕ) × (tick ≡ of * step)) ticks
  pub inside : All (λ tick. (first ≤ tick) × (tick ≤ last)) ticks
  pub below : All (λ tick. tick < times * step) ticks
  pub each : (of : ℕ) → first ≤ of * step → of < times → Contains ticks (of * step)
  pub rising : AllPairs (λ tick later. tick < later) ticks
