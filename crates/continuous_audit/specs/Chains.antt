-- What is kept of the chains of orders, so that none is followed anew.
use Rattle.std.specs.Prelude.{◌≡◌, ◌<◌, ◌≤◌, ◌*◌, ◌^◌, ℕ, Bool, true, false, nat_le, List, Option, None, Some, All, length, slice_index_or}
use Rattle.audit_base.specs.declared.orders.Order.{Order}
use Rattle.audit_base.specs.declared.orders.Deal.{Deal}
use Rattle.audit_base.specs.Orders.{order_at, place_at}
use Rattle.audit_base.specs.Continuous.{chain, traded_before, chain_traded_quantity, left_before}
use Rattle.audit_base.specs.Deals.{NamesOrders, number_at}
use Rattle.audit_base.specs.ContinuousRules.{ConformsAt}
use Rattle.continuous_audit.specs.declared.order_numbers.OrderNumbers.{OrderNumbers}

-- a record up to a place ends an order
abbrev pub ends_by : Option ℕ → ℕ → Bool
ends_by None place = false
ends_by (Some end) place = nat_le end place

-- the record of an order ends each order of its chain, or an earlier one does
abbrev pub HasChainEnded : List Order → ℕ → Type 0
HasChainEnded orders order = All
    (λ replaced. ends_by (order_at orders replaced).cancelled (place_at orders order) ≡ true)
    (chain orders order)

-- the flag at an index of a list
abbrev pub flag_in : List Bool → ℕ → Bool
flag_in flags index = slice_index_or flags index false

-- of the first m orders, those whose flag is set have such a chain
pub record HaveChainsEnded (orders : List Order) (m : ℕ) (chain_ended : List Bool) : Type 0 where
  pub count : length chain_ended ≡ length orders
  pub is : (order : ℕ) → order < m → flag_in chain_ended order ≡ true → HasChainEnded orders order

-- Before of an order is at most 2^72 for each order ahead of it in the list
abbrev pub IsChainTradedBounded : List ℕ → Type 0
IsChainTradedBounded chain_traded = (order : ℕ) → number_at chain_traded order ≤ order * 2 ^ 72

-- whatever the deals are, there are numbers of each order, no Before is too great, and of the first
-- m orders those whose flag is set have such a chain
pub record AreNumbersInBounds (orders : List Order) (m : ℕ)
    (order_numbers : OrderNumbers) : Type 0 where
  pub chain_traded_count : length order_numbers.chain_traded.items ≡ length orders
  pub sizes_count : length order_numbers.sizes.items ≡ length orders
  pub left_count : length order_numbers.left.items ≡ length orders
  pub chain_ended : HaveChainsEnded orders m order_numbers.chain_ended.items
  pub bounded : IsChainTradedBounded order_numbers.chain_traded.items

-- before an order arrives, where the rule holds at each earlier place: what the orders have traded,
-- and of the earlier ones Before and what is left
pub record IsKnownBeforeArrival (orders : List Order) (deals : List Deal) (order : ℕ)
    (traded : List ℕ) (order_numbers : OrderNumbers) : Type 0 where
  pub conforms : (place : ℕ) → place < place_at orders order → ConformsAt orders deals place
  pub named : All (NamesOrders orders) deals
  pub traded_is : (other : ℕ) → other < length orders
      → number_at traded other ≡ traded_before orders deals (place_at orders order) other
  pub chain_traded_is : (other : ℕ) → other < order
      → number_at order_numbers.chain_traded.items other
      ≡ chain_traded_quantity orders deals other
  pub left_is : (other : ℕ) → other < order
      → number_at order_numbers.left.items other
      ≡ left_before orders deals (place_at orders order) other
