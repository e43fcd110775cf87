-- What is drawn of a column in a plot: of each side the least and the greatest best limit, and the
-- least and the greatest price of the trades.
use Rattle.std.specs.Prelude.{ℕ, ◌+◌, ◌-◌, max, List, [], ◌∷◌, ◌++◌, Option, None, Some, codes, decimal}
use Rattle.std.specs.List.{join_with_byte}
use Rattle.audit_base.specs.declared.terms.Side.TheVariants.{Buy, Sell}
use Rattle.audit_base.specs.Numbers.{price_text}
use Rattle.audit_report.specs.Lines.{side_word}
use Rattle.continuous_picture.specs.declared.columns.PlaceColumn.{PlaceColumn}
use Rattle.continuous_picture.specs.declared.ranges.LimitRange.{LimitRange}
use Rattle.page_plots.specs.declared.plots.Plot.{Plot}
use Rattle.page_plots.specs.declared.shapes.Point.{Point}
use Rattle.page_plots.specs.Plots.{x_of, y_of}
use Rattle.page_plots.specs.Shapes.{group, rectangle}

-- how high a range of one price is, so that it is seen
abbrev pub least_height : ℕ
least_height = 2

-- how wide a column is at least, so that it is seen
abbrev pub least_width : ℕ
least_width = 1

-- the title of a range: FIRST,NEXT,WORD,LOW,HIGH, of the places from FIRST to before NEXT
abbrev pub range_title : List ℕ → PlaceColumn → LimitRange → List ℕ
range_title word column range = join_with_byte 44
    (decimal column.first ∷ decimal column.next ∷ word ∷ price_text range.low
    ∷ price_text range.high ∷ [])

-- the upper left corner of a range of a column: at its first place, and at its greatest price
abbrev pub corner_of : Plot → PlaceColumn → LimitRange → Point
corner_of plot column range = record { x = x_of plot column.first; y = y_of plot range.high }

-- how wide a column is: up to the first place of the next one, and never so narrow that it is not
-- seen
abbrev pub width_of : Plot → PlaceColumn → ℕ
width_of plot column = max (x_of plot column.next - x_of plot column.first) least_width

-- how high a range is: down to its least price, and never so low that it is not seen
abbrev pub height_of : Plot → LimitRange → ℕ
height_of plot range = (y_of plot range.low - y_of plot range.high) + least_height

-- the bar of a range
abbrev pub range_bar : Plot → List ℕ → PlaceColumn → LimitRange → List ℕ
range_bar plot class column range =
    rectangle class (corner_of plot column range) (width_of plot column) (height_of plot range)

-- a range
abbrev pub range_shapes : Plot → List ℕ → List ℕ → PlaceColumn → LimitRange → List ℕ
range_shapes plot class word column range =
    group (range_title word column range) (range_bar plot class column range)

-- the same, where there is one
abbrev pub range_if_there : Plot → List ℕ → List ℕ → PlaceColumn → Option LimitRange → List ℕ
range_if_there plot class word column None = []
range_if_there plot class word column (Some range) = range_shapes plot class word column range

-- the best bids of a column
abbrev pub bid_range : Plot → PlaceColumn → List ℕ
bid_range plot column =
    range_if_there plot (codes "bidtraded") (side_word Buy) column column.bids

-- the best asks of a column
abbrev pub ask_range : Plot → PlaceColumn → List ℕ
ask_range plot column =
    range_if_there plot (codes "asktraded") (side_word Sell) column column.asks

-- both
abbrev pub quote_shapes : Plot → PlaceColumn → List ℕ
quote_shapes plot column = bid_range plot column ++ ask_range plot column

-- the prices of its trades
abbrev pub trade_range : Plot → PlaceColumn → List ℕ
trade_range plot column =
    range_if_there plot (codes "trade") (codes "trades") column column.trades
