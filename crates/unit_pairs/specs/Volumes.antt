-- Volumes that both sides have.
use Rattle.std.specs.Prelude.{◌≤◌, ℕ, List}
use Rattle.audit_base.specs.Numbers.{price_end}
use Rattle.audit_base.specs.declared.orders.Order.{Order}
use Rattle.audit_base.specs.Bounds.{demand, supply}

-- all bids together and all asks together have at least this many units
pub record HaveUnits (orders : List Order) (volume : ℕ) : Type 0 where
  pub bids : volume ≤ demand orders 0
  pub asks : volume ≤ supply orders price_end
