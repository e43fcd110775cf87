-- The axes of a plot of prices: a line for each marked price, a mark for each marked number.
use Rattle.std.specs.Prelude.{ℕ, List, ◌+◌, ◌++◌, codes, decimal}
use Rattle.std.specs.List.{flat_map}
use Rattle.audit_base.specs.Numbers.{price_text}
use Rattle.page_plots.specs.declared.plot_axes.Axes.{Axes}
use Rattle.page_plots.specs.declared.plot_axes.NumberTick.{NumberTick}
use Rattle.page_plots.specs.declared.plot_axes.PriceTick.{PriceTick}
use Rattle.page_plots.specs.declared.shapes.Anchor.TheVariants.{Middle, End}
use Rattle.page_plots.specs.Measures.{legend_foot, lower_end, marks_end, numbers_foot, price_word_foot, prices_end, right_end, to_foot}
use Rattle.page_plots.specs.PlotLines.{line_across}
use Rattle.page_plots.specs.Shapes.{label, straight_line}

-- a line at a price, with the price beside it
abbrev pub price_tick : PriceTick → List ℕ
price_tick tick = line_across (codes "grid") tick.y
    ++ label (codes "tick") (record { x = prices_end; y = tick.y + to_foot }) End
    (price_text tick.price)

-- a mark at a number, with the number below it
abbrev pub number_tick : NumberTick → List ℕ
number_tick tick =
    straight_line (codes "axis") (record { x = tick.x; y = lower_end })
    (record { x = tick.x; y = marks_end })
    ++ label (codes "tick") (record { x = tick.x; y = numbers_foot }) Middle (decimal tick.number)

-- what each axis shows
abbrev pub axis_words : List ℕ → List ℕ
axis_words across = line_across (codes "axis") lower_end
    ++ label (codes "tick") (record { x = right_end; y = legend_foot }) End across
    ++ label (codes "tick") (record { x = prices_end; y = price_word_foot }) End (codes "price")

-- the axes, with what the one from the left shows
abbrev pub axes_shapes : Axes → List ℕ → List ℕ
axes_shapes axes across = flat_map price_tick axes.prices.items
    ++ flat_map number_tick axes.numbers.items ++ axis_words across
