-- Two sides that have the demand and the supply of an order list at every price.
use Rattle.std.specs.Prelude.{◌≡◌, ℕ, ◌+◌, min, List}
use Rattle.audit_base.specs.declared.orders.Order.{Order}
use Rattle.audit_base.specs.Bounds.{demand, supply, supply_below}
use Rattle.volume_bound.specs.declared.limits.LimitQuantity.{LimitQuantity}
use Rattle.volume_bound.specs.Limits.{quantity_below, quantity_upto, quantity_from}

-- the limits and the quantities of the bids, and those of the asks
pub record SideLimits : Type 0 where
  pub bids : List LimitQuantity
  pub asks : List LimitQuantity

-- at every price the demand, the supply and the supply below it are those of the orders
pub record HaveSumsOf (orders : List Order) (sides : SideLimits) : Type 0 where
  pub demands : (p : ℕ) → quantity_from sides.bids p ≡ demand orders p
  pub supplies : (p : ℕ) → quantity_upto sides.asks p ≡ supply orders p
  pub supplies_below : (p : ℕ) → quantity_below sides.asks p ≡ supply_below orders p

-- whichever orders have the sums of these sides, this holds of them
abbrev pub ForOrdersOf : SideLimits → (List Order → Type 0) → Type 0
ForOrdersOf sides P = (orders : List Order) → HaveSumsOf orders sides → P orders

-- the cut of these sides at a price
abbrev pub cut_of : SideLimits → ℕ → ℕ
cut_of sides p = quantity_from sides.bids p + quantity_below sides.asks p

-- the executable volume of these sides at a price
abbrev pub executable_of : SideLimits → ℕ → ℕ
executable_of sides p = min (quantity_from sides.bids p) (quantity_upto sides.asks p)
