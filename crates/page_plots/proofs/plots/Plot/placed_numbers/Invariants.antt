use Rattle.std.specs.Prelude.{◌≡◌, map, take}
use Rattle.page_plots.specs.Plots.{placed_number}
use Rattle.page_plots.proofs.plots.Plot.placed_numbers.Given as goal

abbrev pub invariant-loop-mark : goal.invariant-loop-mark
invariant-loop-mark l = l.ticks.items ≡ map (placed_number l.self) (take l.mark-index l.marks)
