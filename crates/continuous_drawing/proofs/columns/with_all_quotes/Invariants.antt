use Rattle.std.specs.Prelude.{◌≡◌, ◌++◌, take}
use Rattle.std.specs.List.{flat_map}
use Rattle.continuous_drawing.specs.Columns.{quote_shapes}
use Rattle.continuous_drawing.proofs.columns.with_all_quotes.Given as goal

abbrev pub invariant-loop-column : goal.invariant-loop-column
invariant-loop-column l = l.made ≡ l.fn.made ++ flat_map (quote_shapes l.fn.plot) (take l.column-index l.columns)
