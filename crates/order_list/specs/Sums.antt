-- Sums over an order list that are taken order by order.
use Rattle.std.specs.Prelude.{◌≡◌, ◌≤◌, ◌*◌, ◌^◌, ℕ, List, take, sum_by}
use Rattle.audit_base.specs.declared.orders.Order.{Order}

-- a sum is that of a number of each of the first orders, each below 2^64
pub record IsSumUpto (f : Order → ℕ) (orders : List Order) (count sum : ℕ) : Type 0 where
  pub is : sum ≡ sum_by f (take count orders)
  pub small : sum ≤ count * 2 ^ 64
