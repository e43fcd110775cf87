-- Which orders are short, that is not fully traded (LeavesQty > 0), by numbers for what each order
-- of a list trades, by its index.
use Rattle.std.specs.Prelude.{◌≡◌, ℕ, Bool, ◌&&◌, nat_lt, List, Option, slice_index}
use Rattle.audit_base.specs.declared.terms.Side.{Side}
use Rattle.audit_base.specs.declared.orders.Order.{Order}
use Rattle.audit_base.specs.declared.orders.Deal.{Deal}
use Rattle.audit_base.specs.Orders.{order_at, quantity_at, is_uncancelled_on, IsOrderList}
use Rattle.audit_base.specs.Priority.{IsRanked}
use Rattle.audit_base.specs.CallOffences.{best_short}
use Rattle.audit_base.specs.Deals.{AreTotals}

-- the order at i is of the side, no record cancels it, and by these numbers it trades less than its
-- quantity
abbrev pub is_short_on : List Order → List ℕ → Side → ℕ → Bool
is_short_on orders traded side i =
    is_uncancelled_on side (order_at orders i)
    && nat_lt (slice_index traded i) (quantity_at orders i)

-- whichever deals the numbers are of: the best short order of the side, if it has one
abbrev pub IsBestShortOn : List Order → List ℕ → Side → Option ℕ → Type 0
IsBestShortOn orders traded side found =
    (deals : List Deal) → AreTotals orders deals traded → found ≡ best_short orders deals side

-- by these numbers the order at i trades less than its quantity
abbrev pub is_short_by : List Order → List ℕ → ℕ → Bool
is_short_by orders traded i = nat_lt (slice_index traded i) (quantity_at orders i)

-- whichever side the ranks are of, and whichever deals the numbers: the best short order of that
-- side, if it has one
abbrev pub IsBestShortOfRank : List Order → List ℕ → List ℕ → Option ℕ → Type 0
IsBestShortOfRank orders ranked traded found =
    (side : Side) (deals : List Deal) → IsOrderList orders → IsRanked orders side ranked
    → AreTotals orders deals traded → found ≡ best_short orders deals side
