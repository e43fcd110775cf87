-- What is drawn of a line of the book: its title with the numbers of its order, its bar, filled as
-- far as is left of it, its limit, and how much is left of how much.
use Rattle.std.specs.Prelude.{ℕ, Bool, false, ◌||◌, ◌+◌, List, ◌++◌, codes, decimal, slice_get}
use Rattle.std.specs.List.{list_any}
use Rattle.audit_base.specs.declared.orders.Order.{Order}
use Rattle.audit_base.specs.declared.terms.Side.{Side}
use Rattle.audit_base.specs.Numbers.{price_text}
use Rattle.continuous_drawing.specs.declared.book_layouts.BookLayout.{BookLayout}
use Rattle.continuous_drawing.specs.declared.book_layouts.PlacedLine.{PlacedLine}
use Rattle.continuous_drawing.specs.BookLayouts.{quantity_of}
use Rattle.page_plots.specs.declared.shapes.Anchor.TheVariants.{End}
use Rattle.page_plots.specs.declared.shapes.Point.{Point}
use Rattle.page_plots.specs.Measures.{left_end, prices_end}
use Rattle.page_plots.specs.Orders.{order_title}
use Rattle.page_plots.specs.Papers.{is_long, paper_of}
use Rattle.page_plots.specs.Shapes.{bar_shape, group, label}
use Rattle.page_plots.specs.Sides.{bar_class, filled_class}

-- how far words beside a line have their foot below its top
abbrev pub foot_below : ℕ
foot_below = 8

-- where the words of what is left end, at the right of the bars
abbrev pub left_words_end : ℕ
left_words_end = 472

-- the bar of a line in a class, from the left of the bars to here
abbrev pub line_bar : List ℕ → PlacedLine → ℕ → List ℕ
line_bar class placed right = bar_shape class (record { x = left_end; y = placed.top }) right

-- the bar of a line, filled as far as is left
abbrev pub bar_shapes : Side → PlacedLine → List ℕ
bar_shapes side placed =
    line_bar (bar_class side) placed placed.right
    ++ line_bar (filled_class side) placed placed.filled

-- a point beside a line, so far below its top
abbrev pub beside : PlacedLine → ℕ → ℕ → Point
beside placed x below = record { x = x; y = placed.top + below }

-- the limit of a line, to the left of its bar
abbrev pub limit_label : PlacedLine → List ℕ
limit_label placed =
    label (codes "tick") (beside placed prices_end foot_below) End (price_text placed.line.limit)

-- what is left, and of how much: LEFT of QUANTITY
abbrev pub left_words : ℕ → ℕ → List ℕ
left_words left quantity = decimal left ++ codes " of " ++ decimal quantity

-- the same of a line, to the right of its bar
abbrev pub left_label : List Order → PlacedLine → List ℕ
left_label orders placed =
    label (codes "tick") (beside placed left_words_end foot_below) End
    (left_words placed.line.left (quantity_of (slice_get orders placed.line.index)))

-- a line
abbrev pub line_shapes : List Order → Side → PlacedLine → List ℕ
line_shapes orders side placed =
    group (order_title (slice_get orders placed.line.index) placed.line.left)
    (bar_shapes side placed ++ limit_label placed ++ left_label orders placed)

-- the limit of a line is long
abbrev pub is_long_line : PlacedLine → Bool
is_long_line placed = is_long placed.line.limit

-- the paper of a book is as high as its lines, and has more room at its left where a limit is long
abbrev pub book_paper : BookLayout → List ℕ
book_paper layout =
    paper_of (list_any is_long_line layout.bids.items || list_any is_long_line layout.asks.items)
    false layout.height
