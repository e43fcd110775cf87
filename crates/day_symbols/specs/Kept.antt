-- What is kept of each symbol of a share.
use Rattle.std.specs.Prelude.{◌≡◌, ℕ, List, [], ◌∷◌, ◌++◌, Some, length, slice_get}

-- there is one for each of these symbols, in their order, and each has the property that it is to
-- have with its symbol
pub record AreForEach {X : Type 0} (P : List ℕ → X → Type 0)
    (symbols : List (List ℕ)) (kept : List X) : Type 0 where
  pub same_length : length kept ≡ length symbols
  pub each : (i : ℕ) (symbol : List ℕ) (one : X)
      → slice_get symbols i ≡ Some symbol → slice_get kept i ≡ Some one → P symbol one

-- the list has one more at its end, which is fresh
pub record HasFreshOne {X : Type 0} (Fresh : X → Type 0) (old new : List X) : Type 0 where
  pub one : X
  pub fresh : Fresh one
  pub last : new ≡ old ++ one ∷ []

-- there is one at this index, as it was, or a fresh one where the list ended there
pub record HasRoomAt {X : Type 0} (Fresh : X → Type 0) (index : ℕ) (old new : List X) : Type 0 where
  pub as_it_was : (index ≡ length old → ⊥) → new ≡ old
  pub one_more : index ≡ length old → HasFreshOne Fresh old new
