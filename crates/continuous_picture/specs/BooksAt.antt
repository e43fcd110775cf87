-- The book right before a record: the orders of a side that rest there, best first.
use Rattle.std.specs.Prelude.{◌≡◌, ◌<◌, ℕ, List, All, AllPairs, IsTrue, length, take}
use Rattle.audit_base.specs.declared.orders.Deal.{Deal}
use Rattle.audit_base.specs.declared.orders.Order.{Order}
use Rattle.audit_base.specs.declared.terms.Side.{Side}
use Rattle.audit_base.specs.Continuous.{left_before, rests_before}
use Rattle.audit_base.specs.Orders.{limit_at, side_at}
use Rattle.audit_base.specs.Priority.{Better}
use Rattle.continuous_audit.specs.Records.{AreTradedBefore}
use Rattle.continuous_picture.specs.Sizes.{AreSizesOf}
use Rattle.continuous_picture.specs.declared.books_at.StateBeforeRecord.{StateBeforeRecord}
use Rattle.order_arrivals.specs.DealtOrders.{IsMarket}
use Rattle.order_book.specs.declared.books.Resting.{Resting}
use Rattle.continuous_picture.specs.Walks.{HasLineOf}

-- an order of a side that rests right before the record at a place, with its limit and what is left
pub record IsBookLine (orders : List Order) (deals : List Deal) (side : Side) (place : ℕ)
    (r : Resting) : Type 0 where
  pub inside : r.index < length orders
  pub of_side : side_at orders r.index ≡ side
  pub rests : IsTrue (rests_before orders deals place r.index)
  pub limit : r.limit ≡ limit_at orders r.index
  pub left : r.left ≡ left_before orders deals place r.index

-- the orders of the first ones that rest there, in no order
pub record AreLines (orders : List Order) (deals : List Deal) (side : Side) (place count : ℕ)
    (lines : List Resting) : Type 0 where
  pub only : All (IsBookLine orders deals side place) lines
  pub early : All (λ r. r.index < count) lines
  pub each : (order : ℕ) → order < count → side_at orders order ≡ side
      → IsTrue (rests_before orders deals place order) → HasLineOf lines order

-- the whole book of a side: each order that rests there, best first
pub record IsWholeBook (orders : List Order) (deals : List Deal) (side : Side) (place : ℕ)
    (lines : List Resting) : Type 0 where
  pub are : AreLines orders deals side place (length orders) lines
  pub ranked : AllPairs (λ r s. Better orders r.index s.index) lines

-- the lines are the first ten of it
pub record IsBookAt (orders : List Order) (deals : List Deal) (side : Side) (place : ℕ)
    (lines : List Resting) : Type 0 where
  pub whole : List Resting
  pub is_whole : IsWholeBook orders deals side place whole
  pub first : lines ≡ take 10 whole

-- the orders and the deals
abbrev pub orders_before : StateBeforeRecord → List Order
orders_before b = b.market.now.orders.now

abbrev pub deals_before : StateBeforeRecord → List Deal
deals_before b = b.market.now.deals.now

-- what each order has traded before a place, and its Size
pub record IsBefore (b : StateBeforeRecord) : Type 0 where
  pub market : IsMarket b.market.now
  pub sizes : AreSizesOf (orders_before b) (deals_before b) b.sizes.now
  pub traded : AreTradedBefore (orders_before b) (deals_before b) b.place b.traded.now
