-- What is drawn of the trades in a plot: a mark each, or where there are many the prices of each
-- column.
use Rattle.std.specs.Prelude.{ℕ, List, [], ◌∷◌, codes, decimal, length, nat_lt, if◌then◌else◌}
use Rattle.std.specs.List.{flat_map, join_with_byte}
use Rattle.audit_base.specs.declared.orders.Deal.{Deal}
use Rattle.audit_base.specs.declared.orders.Order.{Order}
use Rattle.audit_base.specs.Continuous.{cause}
use Rattle.audit_base.specs.Numbers.{price_text}
use Rattle.continuous_picture.specs.declared.columns.PlaceColumn.{PlaceColumn}
use Rattle.continuous_drawing.specs.Columns.{trade_range}
use Rattle.page_plots.specs.declared.plots.Plot.{Plot}
use Rattle.page_plots.specs.declared.shapes.Point.{Point}
use Rattle.page_plots.specs.Plots.{x_of, y_of}
use Rattle.page_plots.specs.Shapes.{circle, group}

-- the radius of the dot of a trade
abbrev pub dot_radius : ℕ
dot_radius = 3

-- its title: PLACE,QUANTITY,PRICE
abbrev pub trade_title : Deal → List ℕ
trade_title d = join_with_byte 44
    (decimal d.place ∷ decimal d.quantity ∷ price_text d.price ∷ [])

-- where it lies: at the place of the record that caused it, and at its price
abbrev pub centre_of : Plot → List Order → Deal → Point
centre_of plot orders d = record { x = x_of plot (cause orders d); y = y_of plot d.price }

-- its mark
abbrev pub trade_shapes : Plot → List Order → Deal → List ℕ
trade_shapes plot orders d =
    group (trade_title d) (circle (codes "trade") (centre_of plot orders d) dot_radius)

-- the greatest number of trades that are drawn as a mark each
abbrev pub most_marks : ℕ
most_marks = 1000

-- a mark for each trade; where there are more than so many, the prices of each column
abbrev pub trades_shapes : Plot → List Order → List Deal → List PlaceColumn → List ℕ
trades_shapes plot orders deals columns = if nat_lt most_marks (length deals)
    then flat_map (trade_range plot) columns
    else flat_map (trade_shapes plot orders) deals
