-- The columns of the picture: some places each, with the least and the greatest best limit and
-- price there.
use Rattle.std.specs.Prelude.{◌≡◌, ◌<◌, ◌≤◌, ◌+◌, ◌-◌, ◌/◌, ℕ, suc, max, min, nat_lt, List, [], ◌∷◌, Option, None, Some, if◌then◌else◌, All, length}
use Rattle.audit_base.specs.declared.orders.Deal.{Deal}
use Rattle.audit_base.specs.declared.orders.Order.{Order}
use Rattle.audit_base.specs.declared.terms.Side.{Side}
use Rattle.audit_base.specs.declared.terms.Side.TheVariants.{Buy, Sell}
use Rattle.audit_base.specs.Continuous.{cause}
use Rattle.audit_base.specs.Deals.{deal_at}
use Rattle.audit_base.specs.Orders.{place_at}
use Rattle.continuous_picture.specs.declared.columns.PlaceColumn.{PlaceColumn}
use Rattle.continuous_picture.specs.declared.ranges.LimitRange.{LimitRange}
use Rattle.continuous_picture.specs.Quotes.{best_limit}

-- at one of these places the best limit of a side is this
pub record IsBestWithin (orders : List Order) (deals : List Deal) (side : Side)
    (first next limit : ℕ) : Type 0 where
  pub place : ℕ
  pub from : first ≤ place
  pub to : place < next
  pub is : best_limit orders deals side place ≡ Some limit

-- a deal whose cause is one of these places has this price
pub record IsPriceWithin (orders : List Order) (deals : List Deal) (first next price : ℕ)
    : Type 0 where
  pub deal : ℕ
  pub inside : deal < length deals
  pub from : first ≤ cause orders (deal_at deals deal)
  pub to : cause orders (deal_at deals deal) < next
  pub is : (deal_at deals deal).price ≡ price

-- the least and the greatest of the numbers that are there
pub record IsRange (Has : ℕ → Type 0) (range : LimitRange) : Type 0 where
  pub lowest : Has range.low
  pub highest : Has range.high
  pub within : (number : ℕ) → Has number → (range.low ≤ number) × (number ≤ range.high)

-- the same, or nothing where no number is there
abbrev pub IsRangeIfThere : (ℕ → Type 0) → Option LimitRange → Type 0
IsRangeIfThere Has None = (number : ℕ) → Has number → ⊥
IsRangeIfThere Has (Some range) = IsRange Has range

-- a column has the least and the greatest of the best limits of both sides at its places, and of
-- the prices of the deals whose causes they are
pub record IsColumn (orders : List Order) (deals : List Deal) (column : PlaceColumn) : Type 0 where
  pub some : column.first < column.next
  pub bids : IsRangeIfThere (IsBestWithin orders deals Buy column.first column.next) column.bids
  pub asks : IsRangeIfThere (IsBestWithin orders deals Sell column.first column.next) column.asks
  pub trades : IsRangeIfThere (IsPriceWithin orders deals column.first column.next) column.trades

-- one column after another, from one place to before another
abbrev pub AreInRow : ℕ → ℕ → List PlaceColumn → Type 0
AreInRow from end [] = from ≡ end
AreInRow from end (column ∷ columns) =
    (column.first ≡ from) × AreInRow column.next end columns

-- where the column from a place ends
abbrev pub next_edge : ℕ → ℕ → ℕ → ℕ
next_edge first end width = if nat_lt width (end - first) then first + width else end

-- how many places a column has: ⌈n/1000⌉ of n
abbrev pub column_width : ℕ → ℕ
column_width places = (places + 999) / 1000

-- the column has as many places as this, or what is left before the end
abbrev pub HasWidth : ℕ → ℕ → PlaceColumn → Type 0
HasWidth width end column = column.next ≡ min (column.first + width) end

-- the columns have all places from that of the first order to before another, one after another;
-- there are at most 1,000 of them, and with as many places each has one; each has ⌈n/1000⌉ of the n
-- places, and the last one what is left, so that of more than 1,000 places there are more than 500
-- columns
pub record AreColumns (orders : List Order) (deals : List Deal) (end : ℕ)
    (columns : List PlaceColumn) : Type 0 where
  pub row : AreInRow (place_at orders 0) (max (place_at orders 0) end) columns
  pub each : All (IsColumn orders deals) columns
  pub few : length columns ≤ 1000
  pub wide : All (HasWidth (column_width (end - place_at orders 0)) end) columns
  pub many : place_at orders 0 + 1000 < end → 500 < length columns
  pub single : end ≤ place_at orders 0 + 1000 → All (λ c. c.next ≡ suc c.first) columns
