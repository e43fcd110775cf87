-- Where the lines of a book lie on its paper: the bids, best first, and below them the asks.
use Rattle.std.specs.Prelude.{◌≡◌, ◌+◌, ◌*◌, ℕ, max, min, List, Option, None, Some, length, map, slice_get}
use Rattle.std.specs.List.{enumerate_from, fold}
use Rattle.audit_base.specs.declared.orders.Order.{Order}
use Rattle.continuous_picture.specs.declared.pictures.BookBefore.{BookBefore}
use Rattle.order_book.specs.declared.books.Resting.{Resting}
use Rattle.page_plots.specs.Axes.{point_of}
use Rattle.page_plots.specs.Measures.{left_end}
use Rattle.continuous_drawing.specs.declared.book_layouts.BookLayout.{BookLayout}
use Rattle.continuous_drawing.specs.declared.book_layouts.PlacedLine.{PlacedLine}

-- how wide the bar of the greatest quantity is: right of it is what is left
abbrev pub widest_bar : ℕ
widest_bar = 284

-- the top of the first line of a book
abbrev pub first_top : ℕ
first_top = 20

-- how high a line of a book is, with the gap below its bar
abbrev pub line_height : ℕ
line_height = 14

-- the room above and below the lines of a book
abbrev pub book_room : ℕ
book_room = 26

-- the greatest number of lines of a side
abbrev pub most_of_side : ℕ
most_of_side = 10

-- the greatest number of lines above another, the gap between the sides among them
abbrev pub most_above : ℕ
most_above = 20

-- the quantity of an order; 0 where there is none
abbrev pub quantity_of : Option Order → ℕ
quantity_of None = 0
quantity_of (Some o) = o.quantity

-- the greatest of a number and the quantities of the orders of some lines
abbrev pub most_of : List Order → ℕ → List Resting → ℕ
most_of orders number lines =
    fold (λ most line. max most (quantity_of (slice_get orders line.index))) number lines

-- the greatest quantity of the orders of a book; 0 where it has none
abbrev pub most_of_book : List Order → BookBefore → ℕ
most_of_book orders book = most_of orders (most_of orders 0 book.bids.items) book.asks.items

-- how far a bar of a quantity reaches, where one of the greatest quantity is the widest
abbrev pub reach_of : ℕ → ℕ → ℕ
reach_of most quantity =
    left_end + point_of (record { first = 0; last = most; length = widest_bar }) quantity

-- the top of a line below so many others, which are not more than the most
abbrev pub top_below : ℕ → ℕ
top_below above = first_top + line_height * min above most_above

-- a line, with a bar as long as the quantity of its order, filled as far as is left of it
abbrev pub placed_line : List Order → ℕ → ℕ → Resting → PlacedLine
placed_line orders most top line = record {
  line = line;
  top = top;
  right = reach_of most (quantity_of (slice_get orders line.index));
  filled = reach_of most line.left;
}

-- the same of a line below so many others
abbrev pub placed_below : List Order → ℕ → ℕ × Resting → PlacedLine
placed_below orders most at = placed_line orders most (top_below at.0) at.1

-- the lines of a side, each below the ones before it, the first one below so many others
abbrev pub placed_lines : List Order → ℕ → ℕ → List Resting → List PlacedLine
placed_lines orders most first lines =
    map (placed_below orders most) (enumerate_from first lines)

-- how many lines are above the asks: the bids, not more than the most of a side, and a gap
abbrev pub first_ask : List Resting → ℕ
first_ask bids = min (length bids) most_of_side + 1

-- how high the paper of a book is: its lines, not more than the most of each side, the gap between
-- the sides, and room above and below
abbrev pub book_height : BookBefore → ℕ
book_height book = book_room
    + line_height * (first_ask book.bids.items + min (length book.asks.items) most_of_side)

-- each line of both sides of a book has its place, best first, and the paper is as high as they are
pub record IsBookLayoutOf (orders : List Order) (book : BookBefore) (layout : BookLayout)
    : Type 0 where
  pub bids_placed : layout.bids.items
      ≡ placed_lines orders (most_of_book orders book) 0 book.bids.items
  pub asks_placed : layout.asks.items
      ≡ placed_lines orders (most_of_book orders book) (first_ask book.bids.items)
      book.asks.items
  pub high : layout.height ≡ book_height book
