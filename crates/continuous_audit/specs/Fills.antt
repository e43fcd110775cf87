-- What an incoming order trades with the best orders of the other side.
use Rattle.std.specs.Prelude.{ℕ, ◌-◌, min, Bool, ◌==◌, ◌&&◌, nat_lt, List, [], ◌∷◌, Option, None, sum_by, if◌then◌else◌}
use Rattle.audit_base.specs.declared.terms.Side.{Side}
use Rattle.audit_base.specs.Least.{only_if}
use Rattle.audit_base.specs.Expected.{limits_meet}
use Rattle.order_book.specs.declared.books.Resting.{Resting}
use Rattle.continuous_audit.specs.declared.fills.Fill.{Fill}

-- an order of a side with this limit, of which this much is left, trades with one that rests
abbrev pub trades_with : Side → ℕ → ℕ → Resting → Bool
trades_with side limit size r = nat_lt 0 size && limits_meet side limit r.limit

-- what they trade: the smaller of what is left of both
abbrev pub fill_of : ℕ → Resting → Fill
fill_of size r = record { index = r.index; quantity = min size r.left }

-- what an order trades next with the best of the orders that rest
abbrev pub next_fill : Side → ℕ → ℕ → List Resting → Option Fill
next_fill side limit size [] = None
next_fill side limit size (x ∷ xs) = only_if (trades_with side limit size x) (fill_of size x)

-- all that an order trades, the best orders first
abbrev pub fills_of : Side → ℕ → ℕ → List Resting → List Fill
fills_of side limit size [] = []
fills_of side limit size (x ∷ xs) = if trades_with side limit size x
    then fill_of size x ∷ fills_of side limit (size - x.left) xs else []

-- the orders that rest after these fills
abbrev pub resting_after_fills : Side → ℕ → ℕ → List Resting → List Resting
resting_after_fills side limit size [] = []
resting_after_fills side limit size (x ∷ xs) = if trades_with side limit size x
    then (if nat_lt size x.left then record x { left = x.left - size } ∷ xs
    else resting_after_fills side limit (size - x.left) xs) else x ∷ xs

-- what an order trades in these fills, and what all of them trade
abbrev pub quantity_filled : List Fill → ℕ → ℕ
quantity_filled fills order =
    sum_by (λ fill. if fill.index == order then fill.quantity else 0) fills

abbrev pub total_filled : List Fill → ℕ
total_filled fills = sum_by (λ fill. fill.quantity) fills
