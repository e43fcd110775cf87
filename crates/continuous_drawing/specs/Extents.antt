-- The plot of continuous trading: from which place to which, and from which price.
use Rattle.std.specs.Prelude.{ℕ, max, min, List, Option, None, Some}
use Rattle.std.specs.List.{fold}
use Rattle.audit_base.specs.declared.orders.Order.{Order}
use Rattle.audit_base.specs.Orders.{place_at}
use Rattle.continuous_picture.specs.declared.columns.PlaceColumn.{PlaceColumn}
use Rattle.continuous_picture.specs.declared.ranges.LimitRange.{LimitRange}
use Rattle.page_plots.specs.declared.plots.Plot.{Plot}
use Rattle.page_plots.specs.Plots.{plot_between}

-- the greatest of a number and the prices of a range, if there is one
abbrev pub highest_with : ℕ → Option LimitRange → ℕ
highest_with number None = number
highest_with number (Some range) = max number range.high

-- the least of a number and the prices of a range, if there is one
abbrev pub lowest_with : ℕ → Option LimitRange → ℕ
lowest_with number None = number
lowest_with number (Some range) = min number range.low

-- the greatest of a number and the prices of a column: of its best bids, of its best asks and of its
-- trades
abbrev pub highest_of : ℕ → PlaceColumn → ℕ
highest_of number column =
    highest_with (highest_with (highest_with number column.bids) column.asks) column.trades

-- the least of a number and these prices
abbrev pub lowest_of : ℕ → PlaceColumn → ℕ
lowest_of number column =
    lowest_with (lowest_with (lowest_with number column.bids) column.asks) column.trades

-- the greatest price that is drawn; 0 where there is none
abbrev pub highest_price : List PlaceColumn → ℕ
highest_price columns = fold highest_of 0 columns

-- the least of a number and the prices of columns
abbrev pub lowest_below : ℕ → List PlaceColumn → ℕ
lowest_below number columns = fold lowest_of number columns

-- the plot of the places from that of the first order to before `end`, and of all prices that are
-- drawn
abbrev pub plot_of_trading : List Order → ℕ → List PlaceColumn → Plot
plot_of_trading orders end columns = plot_between (place_at orders 0) end
    (lowest_below (highest_price columns) columns) (highest_price columns)
