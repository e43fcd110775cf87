-- Price-time priority, the rank of the orders of a side.
use Rattle.std.specs.Prelude.{ℕ, Bool, ◌==◌, ◌||◌, ◌&&◌, not, nat_lt, List, Option, AllPairs, All, Contains, length, IsTrue}
use Rattle.audit_base.specs.declared.terms.Side.{Side}
use Rattle.audit_base.specs.declared.terms.Side.TheVariants.{Buy, Sell}
use Rattle.audit_base.specs.declared.orders.Order.{Order}
use Rattle.audit_base.specs.Least.{least_with, any_below}
use Rattle.audit_base.specs.Orders.{order_at, same_side, IsUncancelledOn}

-- a limit that is better: higher for a bid, lower for an ask
abbrev pub better_limit : (side : Side) (a b : ℕ) → Bool
better_limit Buy a b = nat_lt b a
better_limit Sell a b = nat_lt a b

-- of two orders of this side, the first has the better limit,
-- or the same limit and the smaller place
abbrev pub outranks : (side : Side) (first second : Order) → Bool
outranks side first second =
    better_limit side first.limit second.limit
    || ((first.limit == second.limit) && nat_lt first.place second.place)

-- price-time priority: both orders are of one side, and the first outranks the second
abbrev pub better : (first second : Order) → Bool
better first second = same_side first.side second.side && outranks first.side first second

-- the same of two orders of a list
abbrev pub Better : (orders : List Order) (order other : ℕ) → Type 0
Better orders order other = IsTrue (better (order_at orders order) (order_at orders other))

-- the orders of a side that no record cancels, each once, best first
pub record IsRanked (orders : List Order) (side : Side) (ranks : List ℕ) : Type 0 where
  pub only : All (IsUncancelledOn orders side) ranks
  pub each : (order : ℕ) → IsUncancelledOn orders side order → Contains ranks order
  pub best_first : AllPairs (Better orders) ranks

-- the best of the orders that pass a test of their index: it passes, and none that passes is better
unfoldable pub best_order : (orders : List Order) (test : ℕ → Bool) → Option ℕ
best_order orders test = least_with (λ order. test order
    && not (any_below (λ other. test other
    && better (order_at orders other) (order_at orders order))
    (length orders))) (length orders)
