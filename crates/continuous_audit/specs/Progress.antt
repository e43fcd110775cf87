-- What is known before an order arrives, and what of it after its deals.
use Rattle.std.specs.Prelude.{◌≡◌, ◌≤◌, ℕ, suc, None, replicate}
use Rattle.audit_base.specs.Orders.{place_at}
use Rattle.continuous_audit.specs.declared.indexed_deals.IndexedDeals.{IndexedDeals}
use Rattle.continuous_audit.specs.declared.dealing_state.DealingState.{DealingState}
use Rattle.continuous_audit.specs.declared.state.TradingState.{TradingState}
use Rattle.continuous_audit.specs.Books.{AreEmptyBooks, AreBooksAfterDeals, AreBooksBefore, next_order_place}
use Rattle.continuous_audit.specs.Chains.{HaveChainsEnded}
use Rattle.continuous_audit.specs.Endings.{AreEndingsDropped}
use Rattle.continuous_audit.specs.IndexedDeals.{HaveTraded, IsConserved}
use Rattle.continuous_audit.specs.Records.{AreChainTradedNumbers, AreLeftBefore, AreSizes, AreTradedBefore, ConformsAndIsUncrossed, priority_at}
use Rattle.continuous_audit.specs.Scans.{IsSplitAt}
use Rattle.continuous_audit.specs.OrderNumbers.{AreBlankNumbers}

-- the numbers of the first n orders before a place
pub record AreNumbers (m : IndexedDeals) (n place : ℕ) (numbers : DealingState) : Type 0 where
  pub chain_traded : AreChainTradedNumbers m.orders.now m.deals.now n
      numbers.order_numbers.chain_traded.items
  pub chain_ended : HaveChainsEnded m.orders.now n numbers.order_numbers.chain_ended.items
  pub sizes : AreSizes m.orders.now m.deals.now n numbers.order_numbers.sizes.items
  pub left : AreLeftBefore m.orders.now m.deals.now n place numbers.order_numbers.left.items
  pub running : HaveTraded m n numbers.running

-- the numbers before an order arrives, at its own place; and those after its deals
abbrev pub AreNumbersFor : IndexedDeals → ℕ → DealingState → Type 0
AreNumbersFor m order numbers = AreNumbers m order (place_at m.orders.now order) numbers

abbrev pub AreNumbersAfter : IndexedDeals → ℕ → DealingState → Type 0
AreNumbersAfter m order numbers =
    AreNumbers m (suc order) (suc (place_at m.orders.now order)) numbers

-- the deals of an order, each of which keeps the rules by itself, are those from the start on
pub record HasDealt (m : IndexedDeals) (order : ℕ) (numbers : DealingState) : Type 0 where
  pub conserved : IsConserved m order
  pub split : IsSplitAt m.incoming_deals.now order numbers.start
  pub from : numbers.start ≤ numbers.running.added
  pub known : AreNumbersAfter m order numbers
  pub traded : AreTradedBefore m.orders.now m.deals.now (suc (place_at m.orders.now order))
      numbers.running.traded.items

-- before an order arrives, as of a place
pub record IsReadyAt (m : IndexedDeals) (order place : ℕ) (state : TradingState) : Type 0 where
  pub calm : ConformsAndIsUncrossed m.orders.now m.deals.now place
  pub known : AreNumbers m order place state.numbers
  pub books : AreBooksBefore m.orders.now m.deals.now place state.books_so_far.books
  pub dropped : AreEndingsDropped m.endings.now state.books_so_far.start place

-- after the deals of an order, which show no finding
pub record IsAfterDeals (m : IndexedDeals) (order : ℕ) (state : TradingState) : Type 0 where
  pub dealt : HasDealt m order state.numbers
  pub ranked : priority_at m.orders.now m.deals.now order ≡ None
  pub holds : AreBooksAfterDeals m.orders.now m.deals.now order state.books_so_far.books
  pub dropped : AreEndingsDropped m.endings.now state.books_so_far.start
      (place_at m.orders.now order)

-- before an order arrives, at its own place; and after the order before it
abbrev pub IsReadyFor : IndexedDeals → ℕ → TradingState → Type 0
IsReadyFor m order state = IsReadyAt m order (place_at m.orders.now order) state

abbrev pub IsReadyNext : IndexedDeals → ℕ → TradingState → Type 0
IsReadyNext m order state = IsReadyAt m order (next_order_place m.orders.now order) state

-- before the first of this many orders
pub record AreNumbersAtStart (count : ℕ) (numbers : DealingState) : Type 0 where
  pub order_numbers : AreBlankNumbers count numbers.order_numbers
  pub traded : numbers.running.traded.items ≡ replicate count 0
  pub added : numbers.running.added ≡ 0

-- before the first of this many orders: no order has numbers yet, and the books are empty
pub record IsFirstState (count : ℕ) (state : TradingState) : Type 0 where
  pub numbers : AreNumbersAtStart count state.numbers
  pub books_so_far : AreEmptyBooks state.books_so_far
