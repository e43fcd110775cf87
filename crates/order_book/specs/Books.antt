-- A book as the list of the orders that rest on a side, and what its calls make of this list.
use Rattle.std.specs.Prelude.{◌≡◌, ◌<◌, ◌-◌, ◌⊎◌, ℕ, Bool, ◌==◌, ◌&&◌, nat_lt, List, [], ◌∷◌, Option, None, Some, IsTrue, if◌then◌else◌}
use Rattle.audit_base.specs.Numbers.{IsPrice}
use Rattle.audit_base.specs.declared.terms.Side.{Side}
use Rattle.audit_base.specs.Priority.{better_limit}
use Rattle.order_book.specs.declared.books.Resting.{Resting}

-- a side and the orders that rest on it
pub record BookSide : Type 0 where
  pub side : Side
  pub resting : List Resting

-- what holds of each: something is left, and its limit is a price
pub record IsRestingOrder (r : Resting) : Type 0 where
  pub positive : 0 < r.left
  pub priced : IsPrice r.limit

-- the first is ahead of the second: a better limit, or the same limit and a lower index
abbrev pub IsAheadInBook : Side → Resting → Resting → Type 0
IsAheadInBook side r s = IsTrue (better_limit side r.limit s.limit) ⊎ ((r.limit ≡ s.limit)
    × (r.index < s.index))

-- a list with one order more, after those whose limit is not worse
abbrev pub with_order : Side → Resting → List Resting → List Resting
with_order side r [] = r ∷ []
with_order side r (x ∷ xs) = if better_limit side r.limit x.limit then r ∷ x ∷ xs
    else x ∷ with_order side r xs

-- the book with an order more
abbrev pub book_with_order : BookSide → ℕ → ℕ → ℕ → BookSide
book_with_order b index limit left =
    record b {
      resting = with_order b.side
          (record { index = index; limit = limit; left = left }) b.resting;
    }

-- the order has this index and this limit
abbrev pub has_index_and_limit : ℕ → ℕ → Resting → Bool
has_index_and_limit index limit r = (r.index == index) && (r.limit == limit)

-- a list without the first order that has this index and this limit
abbrev pub without_order : ℕ → ℕ → List Resting → List Resting
without_order index limit [] = []
without_order index limit (x ∷ xs) = if has_index_and_limit index limit x then xs
    else x ∷ without_order index limit xs

-- a list with this much taken from the first order, which is taken out where nothing is left
abbrev pub after_take : ℕ → List Resting → List Resting
after_take quantity [] = []
after_take quantity (x ∷ xs) = if nat_lt quantity x.left
    then record x { left = x.left - quantity } ∷ xs else xs

-- the first order of a list, if there is one
abbrev pub best_resting : List Resting → Option Resting
best_resting [] = None
best_resting (x ∷ xs) = Some x
