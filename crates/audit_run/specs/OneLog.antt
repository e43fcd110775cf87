-- What the functions of a command that reads no log pass on to one another.
use Rattle.std.specs.Prelude.{◌≡◌, ◌++◌, ℕ, List}

-- A line of this kind was added.
pub record AddsLine (is_line : List ℕ → Type 0) (old new : List ℕ) : Type 0 where
  pub line : List ℕ
  pub is : is_line line
  pub added : new ≡ old ++ line
