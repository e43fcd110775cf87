-- Units of quantity in rank order, by which the Expected trades of a call are defined.
use Rattle.std.specs.Prelude.{ℕ, ◌+◌, ◌-◌, min, Bool, ◌&&◌, nat_lt, nat_le, List, sum_by, if◌then◌else◌}
use Rattle.audit_base.specs.declared.terms.Side.{Side}
use Rattle.audit_base.specs.declared.terms.Side.TheVariants.{Buy, Sell}
use Rattle.audit_base.specs.declared.orders.Order.{Order}
use Rattle.audit_base.specs.Sums.{count_upto}
use Rattle.audit_base.specs.Orders.{order_at, quantity_at, is_uncancelled_on}
use Rattle.audit_base.specs.Priority.{outranks}

-- the quantity of the first order, if no record cancels it and it is of the side and better
-- than the second
abbrev pub quantity_if_ahead : Side → Order → Order → ℕ
quantity_if_ahead side first second =
    if is_uncancelled_on side first && outranks side first second then first.quantity else 0

-- the quantity of all orders of the side that are better than this one
abbrev pub total_quantity_ahead : List Order → Side → ℕ → ℕ
total_quantity_ahead orders side order =
    sum_by (λ o. quantity_if_ahead side o (order_at orders order)) orders

-- of v units, what the better orders of the side leave for this one, up to its quantity
abbrev pub due_by_rank : List Order → Side → ℕ → ℕ → ℕ
due_by_rank orders side v order =
    min (quantity_at orders order) (v - total_quantity_ahead orders side order)

-- a unit of a side, by its number from 1, belongs to the order: all better orders have together
-- less than this number, and with the order at least as much
abbrev pub has_unit : List Order → Side → ℕ → ℕ → Bool
has_unit orders side order unit =
    nat_lt (total_quantity_ahead orders side order) unit
    && nat_le unit (total_quantity_ahead orders side order + quantity_at orders order)

-- how many units of a bid are paired with units of an ask under `uniform`, where v units trade:
-- each unit of the bids is paired with the unit of the asks that has the same number
abbrev pub uniform_units : List Order → ℕ → ℕ → ℕ → ℕ
uniform_units orders v bid ask =
    count_upto (λ unit. has_unit orders Buy bid unit && has_unit orders Sell ask unit) v

-- the same under `maximum`: each unit of the asks is paired with unit `v + 1 - unit` of the bids
abbrev pub maximum_units : List Order → ℕ → ℕ → ℕ → ℕ
maximum_units orders v bid ask =
    count_upto (λ unit. has_unit orders Buy bid (v + 1 - unit) && has_unit orders Sell ask unit) v

-- these units where both are a bid and an ask that no record cancels, else 0
abbrev pub if_both_uncancelled : List Order → (ℕ → ℕ → ℕ) → ℕ → ℕ → ℕ
if_both_uncancelled orders units bid ask =
    if is_uncancelled_on Buy (order_at orders bid) && is_uncancelled_on Sell (order_at orders ask)
    then units bid ask else 0
