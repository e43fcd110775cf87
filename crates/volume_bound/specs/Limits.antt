-- One side of an order list as the limits and the quantities of its orders.
use Rattle.std.specs.Prelude.{◌≡◌, ◌≤◌, ◌*◌, ◌^◌, ℕ, List, map, sum_by, nat_lt, nat_le, if◌then◌else◌}
use Rattle.std.specs.List.{filter}
use Rattle.std.specs.List.Sorted.{IsNonDecreasingBy}
use Rattle.audit_base.specs.Numbers.{greatest_quantity}
use Rattle.audit_base.specs.declared.terms.Side.{Side}
use Rattle.audit_base.specs.declared.orders.Order.{Order}
use Rattle.audit_base.specs.Orders.{is_uncancelled_on}
use Rattle.volume_bound.specs.declared.limits.LimitQuantity.{LimitQuantity}

-- the limit and the quantity of an order
abbrev pub limit_quantity_of : Order → LimitQuantity
limit_quantity_of o = record { limit = o.limit; quantity = o.quantity }

-- the limits and the quantities of the orders of a side that no record cancels, in
-- the order of the list
abbrev pub limits_on : Side → List Order → List LimitQuantity
limits_on side orders = map limit_quantity_of (filter (is_uncancelled_on side) orders)

-- the quantities of the limits, added
abbrev pub quantity_of_limits : List LimitQuantity → ℕ
quantity_of_limits limits = sum_by (λ l. l.quantity) limits

-- the quantities whose limit is below p, added
abbrev pub quantity_below : List LimitQuantity → ℕ → ℕ
quantity_below limits p = sum_by (λ l. if nat_lt l.limit p then l.quantity else 0) limits

-- the quantities whose limit is at most p, added
abbrev pub quantity_upto : List LimitQuantity → ℕ → ℕ
quantity_upto limits p = sum_by (λ l. if nat_le l.limit p then l.quantity else 0) limits

-- the quantities whose limit is at least p, added
abbrev pub quantity_from : List LimitQuantity → ℕ → ℕ
quantity_from limits p = sum_by (λ l. if nat_le p l.limit then l.quantity else 0) limits

-- limits that never fall, whose quantities add up to this number, at most 2^32 times 10^12
pub record AreLimitsSummed (limits : List LimitQuantity) (quantity : ℕ) : Type 0 where
  pub rising : IsNonDecreasingBy (λ l. l.limit) limits
  pub whole : quantity ≡ quantity_of_limits limits
  pub small : quantity ≤ 2 ^ 32 * greatest_quantity
