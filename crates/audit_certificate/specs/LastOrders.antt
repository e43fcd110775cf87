-- The last order of a side that trades, by what each order trades.
use Rattle.std.specs.Prelude.{◌≡◌, ◌<◌, ◌↔◌, ◌==◌, ℕ, zero, suc, Bool, ◌&&◌, ◌||◌, not, nat_lt, List, Option, None, Some, IsTrue, ⊤, length, slice_index, if◌then◌else◌}
use Rattle.audit_base.specs.declared.terms.Side.{Side}
use Rattle.audit_base.specs.declared.orders.Order.{Order}
use Rattle.audit_base.specs.declared.orders.Deal.{Deal}
use Rattle.audit_base.specs.Orders.{order_at, side_at, quantity_at, is_uncancelled_on, IsOrderList}
use Rattle.audit_base.specs.Priority.{better}
use Rattle.audit_base.specs.Deals.{AreTotals}
use Rattle.audit_certificate.specs.Agreement.{IsLastLine, IsOrderLine}

-- the index is that of an order of the side
pub record IsOrderOn (orders : List Order) (side : Side) (i : ℕ) : Type 0 where
  pub inside : i < length orders
  pub sided : side_at orders i ≡ side

-- the order at an index takes part on the side and trades
abbrev pub trades_on : List Order → List ℕ → Side → ℕ → Bool
trades_on orders traded side i =
    is_uncancelled_on side (order_at orders i) && nat_lt 0 (slice_index traded i)

-- the worse of the last one so far and the order at an index
abbrev pub worse_of : List Order → Option ℕ → ℕ → ℕ
worse_of orders None i = i
worse_of orders (Some last) i =
    if better (order_at orders last) (order_at orders i) then i else last

-- the last of the first n orders that trades
abbrev pub later_of : List Order → List ℕ → Side → Option ℕ → ℕ → Option ℕ
later_of orders traded side last i =
    if trades_on orders traded side i then Some (worse_of orders last i) else last

unfoldable pub last_trading : List Order → List ℕ → Side → ℕ → Option ℕ
last_trading orders traded side zero = None
last_trading orders traded side (suc n) =
    later_of orders traded side (last_trading orders traded side n) n

-- the order at an index is fully traded, if it takes part on the side and is better than the last
abbrev pub is_filled_ahead : List Order → List ℕ → Side → ℕ → ℕ → Bool
is_filled_ahead orders traded side last i =
    not (is_uncancelled_on side (order_at orders i)
    && better (order_at orders i) (order_at orders last))
    || (slice_index traded i == quantity_at orders i)

-- each order is fully traded that is better than the last, if there is a last
abbrev pub AreFilledAhead : List Order → List ℕ → Side → Option ℕ → Type 0
AreFilledAhead orders traded side None = ⊤
AreFilledAhead orders traded side (Some last) = (i : ℕ) → i < length orders
    → IsTrue (is_filled_ahead orders traded side last i)

-- whichever deals the numbers are of, the test decides whether this is a line 3 or 4,
-- or that of an order
abbrev pub DecidesLastLine : List Order → List ℕ → Side → List ℕ → Bool → Type 0
DecidesLastLine orders traded side text passes = (deals : List Deal) → IsOrderList orders
    → AreTotals orders deals traded → IsTrue passes ↔ IsLastLine orders deals side text

abbrev pub DecidesOrderLine : List Order → List ℕ → ℕ → List ℕ → Bool → Type 0
DecidesOrderLine orders traded index text passes = (deals : List Deal)
    → AreTotals orders deals traded → IsTrue passes ↔ IsOrderLine orders deals index text
