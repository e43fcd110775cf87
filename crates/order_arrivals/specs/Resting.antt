-- Whether an order rests, by its Size and what it has traded.
use Rattle.std.specs.Prelude.{ℕ, Bool, ◌&&◌, nat_lt}
use Rattle.audit_base.specs.declared.orders.Order.{Order}
use Rattle.audit_base.specs.Orders.{may_rest}
use Rattle.audit_base.specs.Continuous.{uncancelled_before}

-- no record before a place ends the order, and something is left of it
abbrev pub has_left_with : Order → ℕ → ℕ → ℕ → Bool
has_left_with order place size traded =
    uncancelled_before order.cancelled place && nat_lt traded size

-- an order of an earlier record rests before a place
abbrev pub rests_with : Order → ℕ → ℕ → ℕ → Bool
rests_with order place size traded = may_rest order.life && has_left_with order place size traded
