use Rattle.std.specs.Prelude.{◌≡◌, false, take}
use Rattle.std.specs.List.{list_any}
use Rattle.page_plots.specs.Papers.{is_long_tick}
use Rattle.page_plots.proofs.papers.has_long_price.Given as goal

abbrev pub invariant-loop-tick : goal.invariant-loop-tick
invariant-loop-tick l = list_any is_long_tick (take l.tick-index l.ticks) ≡ false
