-- What the list of a book is to hold.
use Rattle.std.specs.Prelude.{◌≡◌, ◌<◌, ◌≤◌, ◌-◌, ◌⊎◌, ℕ, suc, Bool, true, false, ◌&&◌, Option, None, Some, List, All, AllPairs, Contains, [], ◌∷◌, length, nat_lt, if◌then◌else◌}
use Rattle.audit_base.specs.declared.terms.Side.{Side}
use Rattle.audit_base.specs.declared.terms.Side.TheVariants.{Buy, Sell}
use Rattle.audit_base.specs.declared.orders.Order.{Order}
use Rattle.audit_base.specs.declared.orders.Deal.{Deal}
use Rattle.audit_base.specs.Orders.{order_at, place_at, side_at, limit_at}
use Rattle.audit_base.specs.Continuous.{traded_before, traded_at, rests_before_in_ledger, left_before_in_ledger, uncancelled_before}
use Rattle.audit_base.specs.Expected.{limits_meet}
use Rattle.audit_base.specs.Deals.{number_at}
use Rattle.order_book.specs.declared.books.Resting.{Resting}
use Rattle.order_book.specs.Books.{IsAheadInBook, best_resting}

-- an order in a book, with this much left
abbrev pub resting_with : List Order → ℕ → ℕ → Resting
resting_with orders order left =
    record { index = order; limit = limit_at orders order; left = left }

-- an order in a book, by what rests of each order
abbrev pub resting_with_amount : List Order → (ℕ → ℕ) → ℕ → Resting
resting_with_amount orders amount order = resting_with orders order (amount order)

-- an order in a book is one of the side of which something rests
pub record IsRestingOn (orders : List Order) (side : Side) (amount : ℕ → ℕ)
    (r : Resting) : Type 0 where
  pub inside : r.index < length orders
  pub of_side : side_at orders r.index ≡ side
  pub some : 0 < amount r.index
  pub is : r ≡ resting_with_amount orders amount r.index

-- exactly the orders of a side of which something rests, in rank order
pub record IsListOfAmounts (orders : List Order) (side : Side) (amount : ℕ → ℕ)
    (xs : List Resting) : Type 0 where
  pub only : All (IsRestingOn orders side amount) xs
  pub each : (order : ℕ) → order < length orders → side_at orders order ≡ side → 0 < amount order
      → Contains xs (resting_with_amount orders amount order)
  pub ranked : AllPairs (IsAheadInBook side) xs

-- what rests of an order before a place: its Left where it rests, else nothing
unfoldable pub resting_left_before : List Order → (ℕ → ℕ → ℕ) → ℕ → ℕ → ℕ
resting_left_before orders ledger place order =
    if rests_before_in_ledger orders ledger place order
    then left_before_in_ledger orders ledger place order else 0

-- with this much left of the first, which is taken out where this is nothing
abbrev pub with_best_left : ℕ → List Resting → List Resting
with_best_left now [] = []
with_best_left now (x ∷ xs) = if nat_lt 0 now then record x { left = now } ∷ xs else xs

-- with what is left now of the first orders, up to the first of which something is left
abbrev pub after_fills : (ℕ → ℕ) → List Resting → List Resting
after_fills left [] = []
after_fills left (x ∷ xs) = if nat_lt 0 (left x.index)
    then record x { left = left x.index } ∷ xs else after_fills left xs

-- a list of what is left has a number for the order, at most what the book has
pub record IsWithinBook (left : List ℕ) (r : Resting) : Type 0 where
  pub inside : r.index < length left
  pub most : number_at left r.index ≤ r.left

-- of the orders that rest before a place, no bid meets an ask
abbrev pub IsUncrossedBefore : List Order → (ℕ → ℕ → ℕ) → ℕ → Type 0
IsUncrossedBefore orders ledger place = (bid ask : ℕ) → bid < length orders → ask < length orders
    → side_at orders bid ≡ Buy → side_at orders ask ≡ Sell
    → rests_before_in_ledger orders ledger place bid ≡ true
    → rests_before_in_ledger orders ledger place ask ≡ true
    → limit_at orders bid < limit_at orders ask

-- an order is active after its own record: no record up to it cancels it, and something is left
abbrev pub is_active_after_own : List Order → (ℕ → ℕ → ℕ) → ℕ → Bool
is_active_after_own orders ledger order =
    uncancelled_before (order_at orders order).cancelled (suc (place_at orders order))
    && nat_lt 0 (left_before_in_ledger orders ledger (suc (place_at orders order)) order)

-- a limit of a side meets that of the first order of a book of the other side
abbrev pub meets_first : Side → ℕ → Option Resting → Bool
meets_first side limit None = false
meets_first side limit (Some h) = limits_meet side limit h.limit

-- of two orders, that of the side Buy and that of the side Sell, where the first is of this side
abbrev pub bid_of_two : Side → ℕ → ℕ → ℕ
bid_of_two Buy i j = i
bid_of_two Sell i j = j

abbrev pub ask_of_two : Side → ℕ → ℕ → ℕ
ask_of_two Buy i j = j
ask_of_two Sell i j = i

-- some amounts between those before and those after, with those after at the first
pub record IsFilledInFront (orders : List Order) (side : Side) (before after : ℕ → ℕ)
    (ys : List Resting) : Type 0 where
  pub amount : ℕ → ℕ
  pub holds : IsListOfAmounts orders side amount ys
  pub either : (order : ℕ) → (amount order ≡ after order) ⊎ (amount order ≡ before order)
  pub first_now : (y : Resting) → best_resting ys ≡ Some y → amount y.index ≡ after y.index

-- what rests of an order before a place, less what it trades in the deals whose cause is this place
abbrev pub resting_left_after_deals : List Order → List Deal → ℕ → ℕ → ℕ
resting_left_after_deals orders deals place order =
    resting_left_before orders
    (traded_before orders deals) place order - traded_at orders deals place order
