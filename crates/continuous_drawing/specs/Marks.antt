-- The marks of the orders of the evidence in the book, with the numbers of their rows in the table.
use Rattle.std.specs.Prelude.{ℕ, Bool, List, [], slice_get, if◌then◌else◌}
use Rattle.std.specs.List.{flat_map, list_any}
use Rattle.audit_base.specs.declared.findings.OrderLine.{OrderLine}
use Rattle.audit_base.specs.declared.orders.Order.{Order}
use Rattle.audit_base.specs.declared.terms.Side.{Side}
use Rattle.audit_base.specs.declared.terms.Side.TheVariants.{Buy, Sell}
use Rattle.continuous_drawing.specs.declared.book_layouts.BookLayout.{BookLayout}
use Rattle.continuous_drawing.specs.declared.book_layouts.PlacedLine.{PlacedLine}
use Rattle.continuous_drawing.specs.Books.{beside}
use Rattle.page_plots.specs.Orders.{badge, has_place}

-- the centre of a mark from the left of the paper, right of what is left
abbrev pub mark_x : ℕ
mark_x = 488

-- how far the centre of a mark lies below the top of its line
abbrev pub mark_below : ℕ
mark_below = 4

-- a mark beside a line, at the right end of the paper, with this number
abbrev pub line_mark : List ℕ → PlacedLine → List ℕ
line_mark number placed = badge number (beside placed mark_x mark_below)

-- the mark of an order at a line, where it is that of the order
abbrev pub mark_at_line : List Order → List ℕ → OrderLine → PlacedLine → List ℕ
mark_at_line orders number line placed =
    if has_place (slice_get orders placed.line.index) line.place then line_mark number placed
    else []

-- the lines of a side
abbrev pub lines_of_side : BookLayout → Side → List PlacedLine
lines_of_side layout Buy = layout.bids.items
lines_of_side layout Sell = layout.asks.items

-- the mark of an order, where it has a line
abbrev pub book_mark : BookLayout → List Order → List ℕ → OrderLine → List ℕ
book_mark layout orders number line =
    flat_map (mark_at_line orders number line) (lines_of_side layout line.side)

-- the mark of an order is drawn: a line of its side is that of the order
abbrev pub has_book_mark : BookLayout → List Order → OrderLine → Bool
has_book_mark layout orders line =
    list_any (λ p. has_place (slice_get orders p.line.index) line.place)
    (lines_of_side layout line.side)
