-- The marks on an axis.
use Rattle.std.specs.Prelude.{◌≡◌, ◌<◌, ◌≤◌, ◌*◌, ℕ, List, All, AllPairs, Contains}

-- these are the multiples of a step from the first number to the last, each once, from the least on
pub record AreTicks (first last step : ℕ) (ticks : List ℕ) : Type 0 where
  pub multiples : All (λ tick. (times : ℕ) × (tick ≡ times * step)) ticks
  pub inside : All (λ tick. (first ≤ tick) × (tick ≤ last)) ticks
  pub each : (times : ℕ) → first ≤ times * step → times * step ≤ last
      → Contains ticks (times * step)
  pub rising : AllPairs (λ tick later. tick < later) ticks
