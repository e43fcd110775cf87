-- Where the numbers and prices of a plot lie on its paper, and what is marked on its axes.
use Rattle.std.specs.Prelude.{◌≡◌, ◌≤◌, ◌+◌, ◌-◌, ◌/◌, ◌^◌, ℕ, List, [], ◌∷◌, map, max, min, nat_lt, if◌then◌else◌}
use Rattle.std.specs.List.{flat_map}
use Rattle.audit_base.specs.Numbers.{price_end}
use Rattle.page_plots.specs.Axes.{IsAxis, point_of}
use Rattle.page_plots.specs.Measures.{left_end, lower_end, plot_height, plot_width}
use Rattle.page_plots.specs.Rounds.{IsLeastRound}
use Rattle.page_plots.specs.Ticks.{AreTicks}
use Rattle.page_plots.specs.declared.axes.Axis.{Axis}
use Rattle.page_plots.specs.declared.plot_axes.Axes.{Axes}
use Rattle.page_plots.specs.declared.plot_axes.NumberTick.{NumberTick}
use Rattle.page_plots.specs.declared.plot_axes.PriceTick.{PriceTick}
use Rattle.page_plots.specs.declared.plots.Plot.{Plot}

-- the two axes can be computed with, none ends before it begins, and they are as long as the plot is
-- wide and high
pub record IsPlot (plot : Plot) : Type 0 where
  pub across : IsAxis plot.across
  pub up : IsAxis plot.up
  pub across_order : plot.across.first ≤ plot.across.last
  pub up_order : plot.up.first ≤ plot.up.last
  pub width : plot.across.length ≡ plot_width
  pub height : plot.up.length ≡ plot_height

-- where a number lies, from the left of the paper: as far to the right of the left end of the plot
-- as it lies from the start of its axis
abbrev pub x_of : Plot → ℕ → ℕ
x_of plot number = left_end + point_of plot.across number

-- where a price lies, from the top of the paper: as far above the lower end of the plot as it lies
-- from the start of its axis
abbrev pub y_of : Plot → ℕ → ℕ
y_of plot price = lower_end - point_of plot.up price

-- the number, or the greatest one of an axis
abbrev pub capped : ℕ → ℕ
capped number = min number (10 ^ 30)

-- the axis of a length from one number to another, or to the next one where that is not greater
abbrev pub axis_between : ℕ → ℕ → ℕ → Axis
axis_between length first last = record {
  first = first;
  last = max last (first + 1);
  length = length;
}

-- the room above and below the prices of a plot: the tenth part of what they span, or of the price
-- where there is one alone, and 1
abbrev pub room_of : ℕ → ℕ → ℕ
room_of lowest highest =
    (if nat_lt lowest highest then highest - lowest else highest) / 10 + 1

-- the plot from one number to another, with room above and below these prices
abbrev pub plot_between : ℕ → ℕ → ℕ → ℕ → Plot
plot_between first last lowest highest = record {
  across = axis_between plot_width (capped first) (capped last);
  up = axis_between plot_height (lowest - room_of lowest highest) (highest + room_of lowest highest);
}

-- the marks of an axis are the multiples, from its first number to its last, of the least round
-- number of which so many reach from the one to the other
pub record AreAxisMarks (axis : Axis) (most : ℕ) (marks : List ℕ) : Type 0 where
  pub step : ℕ
  pub is_step : IsLeastRound (axis.last - axis.first) most step
  pub multiples : AreTicks axis.first axis.last step marks

-- a marked number, at its place
abbrev pub placed_number : Plot → ℕ → NumberTick
placed_number plot number = record { number = number; x = x_of plot number }

-- a marked price, at its place, where the number is a price
abbrev pub placed_price : Plot → ℕ → List PriceTick
placed_price plot number =
    if nat_lt number price_end then record { price = number; y = y_of plot number } ∷ [] else []

-- the numbers of the first axis that are marked, each at its place
pub record AreNumberTicks (plot : Plot) (ticks : List NumberTick) : Type 0 where
  pub marks : List ℕ
  pub are_marks : AreAxisMarks plot.across 4 marks
  pub placed : ticks ≡ map (placed_number plot) marks

-- the prices that are marked, each at its place
pub record ArePriceTicks (plot : Plot) (ticks : List PriceTick) : Type 0 where
  pub marks : List ℕ
  pub are_marks : AreAxisMarks plot.up 5 marks
  pub placed : ticks ≡ flat_map (placed_price plot) marks

-- what is marked on the axes of a plot
pub record AreAxesOf (plot : Plot) (axes : Axes) : Type 0 where
  pub prices : ArePriceTicks plot axes.prices.items
  pub numbers : AreNumberTicks plot axes.numbers.items
