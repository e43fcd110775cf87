-- Searches for a beginning from a place on.
use Rattle.std.specs.Prelude.{◌≡◌, ℕ, ◌+◌, ◌<◌, ◌≤◌, false, List, ◌++◌, length, IsTrue}
use Rattle.fix_days.specs.Lines.{HasNoBeginningBelow, is_beginning}

-- no beginning is at this place or after it
abbrev pub HasNoneFrom : List ℕ → ℕ → Type 0
HasNoneFrom text from = (k : ℕ) → from ≤ k → is_beginning text k ≡ false

-- the first beginning at this place or after it
pub record IsFirstFrom (text : List ℕ) (from place : ℕ) : Type 0 where
  pub low : from ≤ place
  pub high : place < length text
  pub is : IsTrue (is_beginning text place)
  pub first : (k : ℕ) → from ≤ k → k < place → is_beginning text k ≡ false

-- What is left of a day ends with these bytes held. No beginning is before the place in them up to
-- which they are searched, and from there on they have the beginnings that the day has, whatever
-- follows.
pub record IsSearched (left held : List ℕ) (searched : ℕ) : Type 0 where
  pub passed : List ℕ
  pub whole : left ≡ passed ++ held
  pub inside : searched ≤ length held
  pub none : (more : List ℕ) → HasNoBeginningBelow (left ++ more) (length passed + searched)
  pub same : (more : List ℕ) (k : ℕ) → searched ≤ k
      → is_beginning (left ++ more) (length passed + k) ≡ is_beginning (held ++ more) k
