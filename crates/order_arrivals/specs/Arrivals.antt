-- Before, Entered and Size of the first orders.
use Rattle.std.specs.Prelude.{◌≡◌, ◌<◌, ◌≤◌, ◌*◌, ◌^◌, ◌&&◌, ℕ, Bool, true, false, not, List, Option, None, Some, length, slice_index_or}
use Rattle.audit_base.specs.Numbers.{greatest_quantity}
use Rattle.audit_base.specs.declared.orders.Order.{Order}
use Rattle.audit_base.specs.declared.orders.Deal.{Deal}
use Rattle.audit_base.specs.Continuous.{chain_traded_quantity, has_entered, is_cancelled_at_place, size_of_order}
use Rattle.audit_base.specs.Deals.{number_at}
use Rattle.audit_base.specs.Orders.{order_at}
use Rattle.order_arrivals.specs.declared.arrivals.Arrivals.{Arrivals}
use Rattle.order_arrivals.specs.declared.arrivals.TradedSums.{TradedSums}
use Rattle.order_arrivals.specs.declared.dealt_orders.DealtOrders.{DealtOrders}
use Rattle.order_arrivals.specs.Sums.{amount_total}
use Rattle.order_arrivals.specs.Families.{AreFamilies}
use Rattle.order_arrivals.specs.DealtOrders.{HaveTraded}
use Rattle.order_arrivals.specs.Resting.{rests_with}

-- the flag at an index of a list, or false past its end
abbrev pub flag_at : List Bool → ℕ → Bool
flag_at flags index = slice_index_or flags index false

-- Before, Entered and Size of each of the first orders
pub record AreArrivals (orders : List Order) (deals : List Deal) (count : ℕ) (a : Arrivals)
    : Type 0 where
  pub chain_count : length a.chain_traded.items ≡ count
  pub entered_count : length a.entered.items ≡ count
  pub size_count : length a.sizes.items ≡ count
  pub chain_traded : (order : ℕ) → order < count
      → number_at a.chain_traded.items order ≡ chain_traded_quantity orders deals order
  pub fits : (order : ℕ) → order < count → number_at a.chain_traded.items order ≤ 2 ^ 80
  pub entered : (order : ℕ) → order < count
      → flag_at a.entered.items order ≡ has_entered orders deals order
  pub sizes : (order : ℕ) → order < count
      → number_at a.sizes.items order ≡ size_of_order orders deals order

-- an order has no target, or its target rests before its place
abbrev pub target_rests_with : List Order → List ℕ → List ℕ → ℕ → Option ℕ → Bool
target_rests_with orders sizes traded place None = true
target_rests_with orders sizes traded place (Some target) =
    rests_with (order_at orders target) place (number_at sizes target) (number_at traded target)

-- an order is placed, and its target rests if it has one
abbrev pub enters_where : Order → Bool → Bool
enters_where order target_rests =
    not (is_cancelled_at_place order.cancelled order.place) && target_rests

-- the sums of what each order has traded in the deals of the orders before this one
pub record AreTradedSums (m : DealtOrders) (order : ℕ) (s : TradedSums) : Type 0 where
  pub families : AreFamilies m.orders.now s.sums.families
  pub traded : HaveTraded m order s.added s.sums.amounts
  pub total : amount_total s.sums.amounts ≤ s.added * (2 * greatest_quantity)
