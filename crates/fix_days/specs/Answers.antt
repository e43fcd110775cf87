-- What a feed of a day answers in the end.
use Rattle.std.specs.Prelude.{◌≡◌, ℕ, Option, List, length}
use Rattle.fix_days.specs.declared.faults.BadMessage.{BadMessage}

-- The taker has been handed exactly bodies that are read together with this first bad message, or
-- with none.
pub record HasReadBodies (has_taken : List (List ℕ) → Type 0)
    (reads : List (List ℕ) → Option BadMessage → Type 0) (bad : Option BadMessage)
    : Type 0 where
  pub bodies : List (List ℕ)
  pub has : has_taken bodies
  pub read : reads bodies bad

-- The taker has been handed exactly these bodies, and this is their number.
pub record HasCounted (has_taken : List (List ℕ) → Type 0) (count : ℕ) (bodies : List (List ℕ))
    : Type 0 where
  pub has : has_taken bodies
  pub counted : count ≡ length bodies
