-- What a walk over the places keeps: books that have all active orders, and maybe others.
use Rattle.std.specs.Prelude.{◌≡◌, ◌<◌, ◌≤◌, ℕ, suc, Bool, false, ◌==◌, nat_lt, List, [], ◌∷◌, All, Contains, IsTrue, if◌then◌else◌, length}
use Rattle.audit_base.specs.declared.orders.Deal.{Deal}
use Rattle.audit_base.specs.declared.orders.Order.{Order}
use Rattle.audit_base.specs.declared.terms.Side.{Side}
use Rattle.audit_base.specs.declared.terms.Side.TheVariants.{Buy, Sell}
use Rattle.audit_base.specs.Continuous.{active_after}
use Rattle.audit_base.specs.Orders.{limit_at, place_at, side_at}
use Rattle.order_arrivals.specs.declared.dealt_orders.DealtOrders.{DealtOrders}
use Rattle.order_arrivals.specs.DealtOrders.{HaveTraded}
use Rattle.order_book.specs.declared.books.Resting.{Resting}
use Rattle.continuous_picture.specs.declared.walks.Walk.{Walk}

-- the list from the first that passes a test on
abbrev pub from_passing : (Resting → Bool) → List Resting → List Resting
from_passing test [] = []
from_passing test (x ∷ xs) = if test x then x ∷ xs else from_passing test xs

-- an order in a book: one of the first orders, of the side, with its limit
pub record IsInWalkBook (orders : List Order) (side : Side) (count : ℕ) (r : Resting) : Type 0 where
  pub inside : r.index < count
  pub of_side : side_at orders r.index ≡ side
  pub limit : r.limit ≡ limit_at orders r.index

-- the list has an order of this index
abbrev pub HasLineOf : List Resting → ℕ → Type 0
HasLineOf xs order = (r : Resting) × Contains xs r × (r.index ≡ order)

-- some of the first orders of a side, among them all that are active after a place
pub record IsBookOnWalk (orders : List Order) (deals : List Deal) (side : Side) (count place : ℕ)
    (xs : List Resting) : Type 0 where
  pub only : All (IsInWalkBook orders side count) xs
  pub each : (order : ℕ) → order < count → side_at orders order ≡ side
      → IsTrue (active_after orders deals place order) → HasLineOf xs order

-- the first orders are those of the records before a place
pub record AreCome (orders : List Order) (next bound : ℕ) : Type 0 where
  pub inside : next ≤ length orders
  pub come : (order : ℕ) → order < next → place_at orders order < bound
  pub coming : (order : ℕ) → next ≤ order → order < length orders → bound ≤ place_at orders order

-- a walk has taken the orders of the records before `bound`, and has all that are active after
-- `place`
pub record IsWalk (m : DealtOrders) (bound place : ℕ) (w : Walk) : Type 0 where
  pub come : AreCome m.orders.now w.next bound
  pub traded : HaveTraded m w.next w.totals.added w.totals.traded.items
  pub bid_side : w.bids.side ≡ Buy
  pub ask_side : w.asks.side ≡ Sell
  pub bids : IsBookOnWalk m.orders.now m.deals.now Buy w.next place w.bids.resting
  pub asks : IsBookOnWalk m.orders.now m.deals.now Sell w.next place w.asks.resting

-- the next order is that of the record at a place
abbrev pub is_next_at : List Order → ℕ → ℕ → Bool
is_next_at orders next place = if nat_lt next (length orders) then place_at orders next == place
    else false

-- the books have the next order as well, and all else is as it was
pub record HasNext (m : DealtOrders) (place : ℕ) (old new : Walk) : Type 0 where
  pub next : new.next ≡ old.next
  pub totals : new.totals ≡ old.totals
  pub bid_side : new.bids.side ≡ Buy
  pub ask_side : new.asks.side ≡ Sell
  pub bids : IsBookOnWalk m.orders.now m.deals.now Buy (suc old.next) place new.bids.resting
  pub asks : IsBookOnWalk m.orders.now m.deals.now Sell (suc old.next) place new.asks.resting
