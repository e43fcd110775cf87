use Rattle.std.specs.Prelude.{◌≡◌, ◌++◌, take}
use Rattle.std.specs.List.{flat_map}
use Rattle.continuous_drawing.specs.Columns.{trade_range}
use Rattle.continuous_drawing.proofs.columns.with_trade_ranges.Given as goal

abbrev pub invariant-loop-column : goal.invariant-loop-column
invariant-loop-column l = l.made ≡ l.fn.made ++ flat_map (trade_range l.fn.plot) (take l.column-index l.columns)
