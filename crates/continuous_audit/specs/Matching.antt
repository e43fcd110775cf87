-- What is known of the Expected trades before an order arrives, and after it has traded.
use Rattle.std.specs.Prelude.{◌≡◌, ◌<◌, ◌≤◌, ◌+◌, ◌-◌, ℕ, suc, List, [], All, length, replicate}
use Rattle.audit_base.specs.Numbers.{greatest_quantity}
use Rattle.audit_base.specs.declared.orders.Order.{Order}
use Rattle.audit_base.specs.declared.orders.Deal.{Deal}
use Rattle.audit_base.specs.Orders.{place_at}
use Rattle.audit_base.specs.Continuous.{traded_before, chain_traded_quantity, left_before}
use Rattle.audit_base.specs.ContinuousRules.{ConformsContinuous}
use Rattle.audit_base.specs.Expected.{IsExpectedContinuous}
use Rattle.audit_base.specs.Deals.{number_at}
use Rattle.continuous_audit.specs.declared.expected_trades.TradesSoFar.{TradesSoFar}
use Rattle.continuous_audit.specs.Holding.{resting_left_before, resting_left_after_deals}
use Rattle.continuous_audit.specs.Books.{AreEmptyBooks, AreBooksOfAmounts, resting_count}
use Rattle.continuous_audit.specs.Chains.{AreNumbersInBounds}
use Rattle.continuous_audit.specs.Fills.{quantity_filled}
use Rattle.continuous_audit.specs.Pairs.{AreSharedPairs, IsFillPairInRange}
use Rattle.continuous_audit.specs.OrderNumbers.{AreBlankNumbers}
use Rattle.continuous_audit.specs.declared.fills.Fill.{Fill}

-- these deals are the Expected trades, and they conform
pub record AreExpectedDeals (orders : List Order) (deals : List Deal) : Type 0 where
  pub expected : IsExpectedContinuous orders deals
  pub conforms : ConformsContinuous orders deals

-- fills are added to what the orders have traded, and taken from what is left of them
pub record AreFillsApplied (fills : List Fill)
    (old_traded old_left traded left : List ℕ) : Type 0 where
  pub traded_count : length traded ≡ length old_traded
  pub left_count : length left ≡ length old_left
  pub traded_is : (order : ℕ) → number_at traded order
      ≡ number_at old_traded order + quantity_filled fills order
  pub left_is : (order : ℕ) → number_at left order
      ≡ number_at old_left order - quantity_filled fills order

-- whatever the deals are: there is a number for each order, what it has traded and has left are
-- together at most the greatest Size, and the pairs, the orders in the books and the one that waits
-- to enter are together at most n
pub record AreTradesSoFar (orders : List Order) (n waiting : ℕ) (t : TradesSoFar) : Type 0 where
  pub traded_count : length t.traded.items ≡ length orders
  pub order_numbers : AreNumbersInBounds orders n t.order_numbers
  pub traded_fits : (order : ℕ) → number_at t.traded.items order
      + number_at t.order_numbers.left.items order ≤ greatest_quantity
  pub dealt : All (IsFillPairInRange (length orders)) t.pairs.items
  pub within : length t.pairs.items + resting_count t.books_so_far.books + waiting ≤ n

-- under these deals, of the first n orders before a place, where the books hold these amounts
pub record IsMatchedUnder (orders : List Order) (deals : List Deal) (n place : ℕ) (amount : ℕ → ℕ)
    (t : TradesSoFar) : Type 0 where
  pub traded_is : (order : ℕ) → order < length orders
      → number_at t.traded.items order ≡ traded_before orders deals place order
  pub chain_traded_is : (order : ℕ) → order < n → number_at t.order_numbers.chain_traded.items order
      ≡ chain_traded_quantity orders deals order
  pub left_is : (order : ℕ) → order < n → number_at t.order_numbers.left.items order
      ≡ left_before orders deals place order
  pub books : AreBooksOfAmounts orders amount t.books_so_far.books
  pub pairs : AreSharedPairs orders deals n t.pairs.items

-- before a place, where this order is the next
abbrev pub MatchedBefore : List Order → ℕ → ℕ → TradesSoFar → Type 0
MatchedBefore orders order place t = (deals : List Deal) → AreExpectedDeals orders deals
    → IsMatchedUnder orders deals order place
    (resting_left_before orders (traded_before orders deals) place) t

-- after an order has traded
abbrev pub MatchedAfter : List Order → ℕ → TradesSoFar → Type 0
MatchedAfter orders order t = (deals : List Deal) → AreExpectedDeals orders deals
    → IsMatchedUnder orders deals (suc order) (suc (place_at orders order))
    (resting_left_after_deals orders deals (place_at orders order)) t

-- before the first of this many orders
pub record AreTradesAtStart (count : ℕ) (t : TradesSoFar) : Type 0 where
  pub traded : t.traded.items ≡ replicate count 0
  pub order_numbers : AreBlankNumbers count t.order_numbers
  pub books_so_far : AreEmptyBooks t.books_so_far
  pub pairs : t.pairs.items ≡ []
