-- The books of both sides, and what is made of them.
use Rattle.std.specs.Prelude.{◌≡◌, ◌<◌, ◌+◌, ◌==◌, ℕ, zero, suc, List, [], All, length, nat_lt, if◌then◌else◌}
use Rattle.audit_base.specs.declared.terms.Side.{Side}
use Rattle.audit_base.specs.declared.terms.Side.TheVariants.{Buy, Sell}
use Rattle.audit_base.specs.declared.orders.Order.{Order}
use Rattle.audit_base.specs.declared.orders.Deal.{Deal}
use Rattle.audit_base.specs.Orders.{place_at}
use Rattle.audit_base.specs.Continuous.{traded_before}
use Rattle.audit_base.specs.Deals.{number_at}
use Rattle.order_book.specs.declared.books.Resting.{Resting}
use Rattle.order_book.specs.Books.{without_order, with_order}
use Rattle.continuous_audit.specs.declared.books.Books.{Books}
use Rattle.continuous_audit.specs.declared.books.BooksSoFar.{BooksSoFar}
use Rattle.continuous_audit.specs.Holding.{IsListOfAmounts, after_fills, resting_left_before, resting_left_after_deals}

-- the list of the book of a side
abbrev pub book_list : Side → Books → List Resting
book_list Buy b = b.bids.resting
book_list Sell b = b.asks.resting

-- the books with another list on one side
abbrev pub books_with_list : Side → List Resting → Books → Books
books_with_list Buy xs b = record b { bids = record b.bids { resting = xs } }
books_with_list Sell xs b = record b { asks = record b.asks { resting = xs } }

-- the books without an order
abbrev pub books_without_order : Side → ℕ → ℕ → Books → Books
books_without_order side index limit b =
    books_with_list side (without_order index limit (book_list side b)) b

-- the books with one order more
abbrev pub books_with_order : Side → Resting → Books → Books
books_with_order Buy r b =
    record b { bids = record b.bids { resting = with_order b.bids.side r b.bids.resting } }
books_with_order Sell r b =
    record b { asks = record b.asks { resting = with_order b.asks.side r b.asks.resting } }

-- the books with what is left now of the best orders of a side
abbrev pub books_with_fills : Side → List ℕ → Books → Books
books_with_fills side left b =
    books_with_list side (after_fills (number_at left) (book_list side b)) b

-- how many orders rest in both books
abbrev pub resting_count : Books → ℕ
resting_count b = length b.bids.resting + length b.asks.resting

-- each order in a book is before this one in the order list
pub record AreBooksBelow (order : ℕ) (b : Books) : Type 0 where
  pub bids : All (λ r. r.index < order) b.bids.resting
  pub asks : All (λ r. r.index < order) b.asks.resting

-- both books hold these amounts
pub record AreBooksOfAmounts (orders : List Order) (amount : ℕ → ℕ) (b : Books) : Type 0 where
  pub bid_side : b.bids.side ≡ Buy
  pub ask_side : b.asks.side ≡ Sell
  pub bids : IsListOfAmounts orders Buy amount b.bids.resting
  pub asks : IsListOfAmounts orders Sell amount b.asks.resting

-- both books hold what rests before a place
abbrev pub AreBooksBefore : List Order → List Deal → ℕ → Books → Type 0
AreBooksBefore orders deals place b =
    AreBooksOfAmounts orders (resting_left_before orders (traded_before orders deals) place) b

-- both books hold what rests of the orders before this one, after its deals
abbrev pub AreBooksAfterDeals : List Order → List Deal → ℕ → Books → Type 0
AreBooksAfterDeals orders deals order b = AreBooksOfAmounts orders
    (resting_left_after_deals orders deals (place_at orders order)) b

-- what rests after the record of an order, without this order
abbrev pub resting_left_without_own : List Order → List Deal → ℕ → ℕ → ℕ
resting_left_without_own orders deals own order = if order == own then 0
    else resting_left_before orders (traded_before orders deals) (suc (place_at orders own)) order

-- the books after the record of an order, without this order
abbrev pub AreBooksWithoutOwn : List Order → List Deal → ℕ → Books → Type 0
AreBooksWithoutOwn orders deals order b =
    AreBooksOfAmounts orders (resting_left_without_own orders deals order) b

-- both books hold what rests after the record of an order
abbrev pub AreBooksAfter : List Order → List Deal → ℕ → Books → Type 0
AreBooksAfter orders deals order b = AreBooksBefore orders deals (suc (place_at orders order)) b

-- the place of the order at an index, or one past the last place if there is none
abbrev pub next_order_place : List Order → ℕ → ℕ
next_order_place orders zero = place_at orders 0
next_order_place orders (suc order) =
    if nat_lt (suc order) (length orders) then place_at orders (suc order)
    else suc (place_at orders order)

-- both books hold what rests when this order arrives
abbrev pub AreBooksForNext : List Order → List Deal → ℕ → Books → Type 0
AreBooksForNext orders deals order b = AreBooksBefore orders deals (next_order_place orders order) b

-- empty books, before the first order
pub record AreEmptyBooks (books_so_far : BooksSoFar) : Type 0 where
  pub bid_side : books_so_far.books.bids.side ≡ Buy
  pub ask_side : books_so_far.books.asks.side ≡ Sell
  pub bids : books_so_far.books.bids.resting ≡ []
  pub asks : books_so_far.books.asks.resting ≡ []
  pub start : books_so_far.start ≡ 0
