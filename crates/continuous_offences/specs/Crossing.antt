-- The order of a record that meets one of the other side.
use Rattle.std.specs.Prelude.{ℕ, List, Option, None, Some, if◌then◌else◌}
use Rattle.audit_base.specs.declared.orders.Order.{Order}
use Rattle.audit_base.specs.declared.terms.Side.{Side}
use Rattle.audit_base.specs.declared.terms.Side.TheVariants.{Buy, Sell}
use Rattle.audit_base.specs.declared.flaws.TradedOrder.{TradedOrder}
use Rattle.audit_base.specs.Expected.{limits_meet}
use Rattle.audit_base.specs.Least.{only_if}
use Rattle.audit_base.specs.Orders.{limit_at, order_at}
use Rattle.audit_base.specs.Priority.{better}
use Rattle.offence_list.specs.declared.offences.ListedOffence.{ListedOffence}
use Rattle.offence_list.specs.declared.offences.ListedOffence.TheVariants.{Spread}
use Rattle.continuous_offences.specs.declared.state_after_deals.StateAfterDeals.{StateAfterDeals}
use Rattle.continuous_offences.specs.StateAfterDeals.{orders_of, place_of, shown_after}
use Rattle.continuous_offences.specs.Passing.{own_side}

-- the better one of an order and the best of its side that rests
abbrev pub best_of_side : List Order → ℕ → Option ℕ → ℕ
best_of_side orders order None = order
best_of_side orders order (Some best) =
    if better (order_at orders best) (order_at orders order) then best else order

-- an order of this side and one of the other meet at a place
abbrev pub spread_of : Side → ℕ → TradedOrder → TradedOrder → ListedOffence
spread_of Buy place own other = Spread place own other
spread_of Sell place own other = Spread place other own

-- the offence of an active order, by the best orders that rest
abbrev pub crossing_of : StateAfterDeals → Option ℕ → Option ℕ → Option ListedOffence
crossing_of d own None = None
crossing_of d own (Some other) = only_if
    (limits_meet (own_side d) (limit_at (orders_of d) d.order) (limit_at (orders_of d) other))
    (spread_of (own_side d) (place_of d)
    (shown_after d (best_of_side (orders_of d) d.order own)) (shown_after d other))
