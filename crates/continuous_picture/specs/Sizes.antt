-- Size of each order.
use Rattle.std.specs.Prelude.{◌≡◌, ◌<◌, ℕ, List, length}
use Rattle.audit_base.specs.declared.orders.Deal.{Deal}
use Rattle.audit_base.specs.declared.orders.Order.{Order}
use Rattle.audit_base.specs.Continuous.{size_of_order}
use Rattle.audit_base.specs.Deals.{number_at}

-- the numbers are Size of each order
pub record AreSizesOf (orders : List Order) (deals : List Deal) (sizes : List ℕ) : Type 0 where
  pub count : length sizes ≡ length orders
  pub is : (order : ℕ) → order < length orders
      → number_at sizes order ≡ size_of_order orders deals order
