use Rattle.std.specs.Prelude.{◌≡◌, take}
use Rattle.std.specs.List.{flat_map}
use Rattle.page_plots.specs.Plots.{placed_price}
use Rattle.page_plots.proofs.plots.Plot.placed_prices.Given as goal

abbrev pub invariant-loop-mark : goal.invariant-loop-mark
invariant-loop-mark l = l.ticks.items ≡ flat_map (placed_price l.self) (take l.mark-index l.marks)
