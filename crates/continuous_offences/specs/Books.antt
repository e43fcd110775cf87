-- The books of the orders that may rest, and what is made of them.
use Rattle.std.specs.Prelude.{◌≡◌, ◌<◌, ◌&&◌, ℕ, suc, Bool, nat_lt, List, [], ◌∷◌, All, Contains, IsTrue, if◌then◌else◌}
use Rattle.audit_base.specs.declared.orders.Order.{Order}
use Rattle.audit_base.specs.declared.orders.Deal.{Deal}
use Rattle.audit_base.specs.declared.terms.Side.{Side}
use Rattle.audit_base.specs.declared.terms.Side.TheVariants.{Buy, Sell}
use Rattle.audit_base.specs.Continuous.{size_of_order, traded_before}
use Rattle.audit_base.specs.Orders.{limit_at, order_at, same_side, side_at}
use Rattle.order_book.specs.declared.books.Resting.{Resting}
use Rattle.continuous_offences.specs.declared.books.RestingBooks.{RestingBooks}
use Rattle.continuous_offences.specs.declared.state_after_deals.StateAfterDeals.{StateAfterDeals}
use Rattle.continuous_offences.specs.StateAfterDeals.{deals_of, orders_of, place_of}
use Rattle.order_arrivals.specs.Resting.{rests_with}

-- an order rests, where no record before `place` ends it and it has traded what it trades before
-- `next`: before a place these are this place, and after the deals of its record `next` is the next
abbrev pub waits : List Order → List Deal → ℕ → ℕ → ℕ → Bool
waits orders deals place next order = rests_with (order_at orders order) place
    (size_of_order orders deals order) (traded_before orders deals next order)

-- the list from the first that passes a test on
abbrev pub from_first : (Resting → Bool) → List Resting → List Resting
from_first test [] = []
from_first test (x ∷ xs) = if test x then x ∷ xs else from_first test xs

-- the same of an order in a book, after the deals of an order
abbrev pub waits_in_book : StateAfterDeals → ℕ → Resting → Bool
waits_in_book d place r =
    waits (orders_of d) (deals_of d) place (suc (place_of d)) r.index

-- an order in a book: one of the first orders, of the side, with its limit
pub record IsInBook (orders : List Order) (side : Side) (count : ℕ) (r : Resting) : Type 0 where
  pub inside : r.index < count
  pub of_side : side_at orders r.index ≡ side
  pub limit : r.limit ≡ limit_at orders r.index

-- the list has an order of this index
abbrev pub HasOrder : List Resting → ℕ → Type 0
HasOrder xs order = (r : Resting) × Contains xs r × (r.index ≡ order)

-- some of the first orders of a side, among them all that rest
pub record IsBookOf (orders : List Order) (deals : List Deal) (side : Side) (count place next : ℕ)
    (xs : List Resting) : Type 0 where
  pub only : All (IsInBook orders side count) xs
  pub each : (order : ℕ) → order < count → side_at orders order ≡ side
      → IsTrue (waits orders deals place next order) → HasOrder xs order

-- the same of both books
pub record AreBooksOf (orders : List Order) (deals : List Deal) (count place next : ℕ) (b : RestingBooks)
    : Type 0 where
  pub bid_side : b.bids.side ≡ Buy
  pub ask_side : b.asks.side ≡ Sell
  pub bids : IsBookOf orders deals Buy count place next b.bids.resting
  pub asks : IsBookOf orders deals Sell count place next b.asks.resting

-- one of the first orders of a side rests
abbrev pub waits_on : List Order → List Deal → Side → ℕ → ℕ → ℕ → ℕ → Bool
waits_on orders deals side count place next order = nat_lt order count
    && (same_side side (side_at orders order) && waits orders deals place next order)
