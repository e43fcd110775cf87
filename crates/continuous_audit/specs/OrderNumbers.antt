-- What is known of each order, and what its arrival at its own record adds.
use Rattle.std.specs.Prelude.{◌≡◌, ◌≤◌, ◌*◌, ◌^◌, ℕ, List, true, false, replicate, slice_set}
use Rattle.audit_base.specs.Numbers.{greatest_quantity}
use Rattle.audit_base.specs.declared.orders.Order.{Order}
use Rattle.audit_base.specs.declared.orders.Deal.{Deal}
use Rattle.audit_base.specs.Continuous.{chain_traded_quantity, has_entered, size_of_order}
use Rattle.continuous_audit.specs.declared.arrival.Arrival.{Arrival}
use Rattle.continuous_audit.specs.declared.order_numbers.OrderNumbers.{OrderNumbers}
use Rattle.continuous_audit.specs.Chains.{HasChainEnded}

-- nothing is known yet of any of this many orders
pub record AreBlankNumbers (count : ℕ) (order_numbers : OrderNumbers) : Type 0 where
  pub chain_traded : order_numbers.chain_traded.items ≡ replicate count 0
  pub chain_ended : order_numbers.chain_ended.items ≡ replicate count false
  pub sizes : order_numbers.sizes.items ≡ replicate count 0
  pub left : order_numbers.left.items ≡ replicate count 0

-- whether an order entered, with its Before and its Size
pub record IsArrivalOfOrder (orders : List Order) (deals : List Deal) (order : ℕ)
    (arrival : Arrival) : Type 0 where
  pub entered_is : arrival.entered ≡ has_entered orders deals order
  pub chain_traded_is : arrival.chain_traded ≡ chain_traded_quantity orders deals order
  pub size_is : arrival.size ≡ size_of_order orders deals order

-- whatever the deals are, its Before and its Size are not too great, and where its flag is set the
-- orders of its chain are ended
pub record IsArrivalBounded (orders : List Order) (order : ℕ) (arrival : Arrival) : Type 0 where
  pub bounded : arrival.chain_traded ≤ order * 2 ^ 72
  pub chain_ended : arrival.chain_ended ≡ true → HasChainEnded orders order
  pub most : arrival.size ≤ greatest_quantity

-- the arrival of an order is noted, and nothing else changes
pub record IsArrivalNoted (order : ℕ) (arrival : Arrival) (old new : OrderNumbers) : Type 0 where
  pub chain_traded : new.chain_traded.items
      ≡ slice_set old.chain_traded.items order arrival.chain_traded
  pub chain_ended : new.chain_ended.items
      ≡ slice_set old.chain_ended.items order arrival.chain_ended
  pub sizes : new.sizes.items ≡ slice_set old.sizes.items order arrival.size
  pub left : new.left.items ≡ old.left.items
