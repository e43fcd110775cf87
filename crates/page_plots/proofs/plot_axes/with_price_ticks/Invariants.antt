use Rattle.std.specs.Prelude.{◌≡◌, ◌++◌, take}
use Rattle.std.specs.List.{flat_map}
use Rattle.page_plots.specs.PlotAxes.{price_tick}
use Rattle.page_plots.proofs.plot_axes.with_price_ticks.Given as goal

abbrev pub invariant-loop-tick : goal.invariant-loop-tick
invariant-loop-tick l = l.made ≡ l.fn.made ++ flat_map price_tick (take l.tick-index l.ticks)
