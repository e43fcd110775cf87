-- What is known at a record, over the orders and the deals.
use Rattle.std.specs.Prelude.{◌≡◌, ◌<◌, ◌≤◌, ◌^◌, ℕ, suc, Bool, List, Option, length}
use Rattle.audit_base.specs.declared.orders.Order.{Order}
use Rattle.audit_base.specs.declared.orders.Deal.{Deal}
use Rattle.audit_base.specs.declared.findings.Finding.{Finding}
use Rattle.audit_base.specs.Orders.{place_at}
use Rattle.audit_base.specs.Continuous.{traded_before, chain_traded_quantity, has_entered, size_of_order, left_before}
use Rattle.audit_base.specs.ContinuousRules.{ConformsAt}
use Rattle.audit_base.specs.Least.{least_answer}
use Rattle.audit_base.specs.ContinuousOffences.{conservation_finding, resting_priority_finding}
use Rattle.audit_base.specs.Deals.{number_at}
use Rattle.continuous_audit.specs.declared.order_numbers.OrderNumbers.{OrderNumbers}
use Rattle.continuous_audit.specs.Holding.{IsUncrossedBefore}
use Rattle.continuous_audit.specs.Chains.{IsChainTradedBounded}
use Rattle.continuous_audit.specs.Scans.{AreTotalsSmall, AreWithinGreatestSize}

-- the rule holds at each place below this one
abbrev pub ConformsBelow : List Order → List Deal → ℕ → Type 0
ConformsBelow orders deals place = (earlier : ℕ) → earlier < place → ConformsAt orders deals earlier

-- the rule holds at each place below this one, and of the orders that rest before it none meet
pub record ConformsAndIsUncrossed (orders : List Order) (deals : List Deal)
    (place : ℕ) : Type 0 where
  pub conforms : ConformsBelow orders deals place
  pub apart : IsUncrossedBefore orders (traded_before orders deals) place

-- Before of each of the first m orders
pub record AreChainTradedNumbers (orders : List Order) (deals : List Deal) (m : ℕ)
    (chain_traded : List ℕ) : Type 0 where
  pub count : length chain_traded ≡ length orders
  pub is : (order : ℕ) → order < m → number_at chain_traded order
      ≡ chain_traded_quantity orders deals order
  pub fits : (order : ℕ) → number_at chain_traded order ≤ 2 ^ 126
  pub bounded : IsChainTradedBounded chain_traded

-- Size of each of the first m orders, and none is over the greatest
pub record AreSizes (orders : List Order) (deals : List Deal) (m : ℕ)
    (sizes : List ℕ) : Type 0 where
  pub count : length sizes ≡ length orders
  pub is : (order : ℕ) → order < m → number_at sizes order ≡ size_of_order orders deals order
  pub most : AreWithinGreatestSize sizes

-- what is left of each of the first m orders before a place
pub record AreLeftBefore (orders : List Order) (deals : List Deal) (m place : ℕ)
    (left : List ℕ) : Type 0 where
  pub count : length left ≡ length orders
  pub is : (order : ℕ) → order < m → number_at left order ≡ left_before orders deals place order

-- before the deals of an order: whether it entered, Before and Size of each order up to it, and
-- what is left of the earlier ones
pub record IsKnownBeforeDeals (orders : List Order) (deals : List Deal) (order : ℕ) (entered : Bool)
    (order_numbers : OrderNumbers) : Type 0 where
  pub arrived : entered ≡ has_entered orders deals order
  pub chain_traded : AreChainTradedNumbers orders deals (suc order) order_numbers.chain_traded.items
  pub sizes : AreSizes orders deals (suc order) order_numbers.sizes.items
  pub left : AreLeftBefore orders deals order (place_at orders order) order_numbers.left.items

-- what each order has traded before a place
pub record AreTradedBefore (orders : List Order) (deals : List Deal) (place : ℕ)
    (traded : List ℕ) : Type 0 where
  pub small : AreTotalsSmall orders traded
  pub is : (order : ℕ) → order < length orders → number_at traded order
      ≡ traded_before orders deals place order

-- the first finding of conservation, and the first of priority, at the record of an order
abbrev pub conservation_at : List Order → List Deal → ℕ → Option Finding
conservation_at orders deals order = least_answer
    (conservation_finding orders deals (place_at orders order)) (length deals)

abbrev pub priority_at : List Order → List Deal → ℕ → Option Finding
priority_at orders deals order =
    least_answer (resting_priority_finding orders deals (place_at orders order))
    (length deals)
