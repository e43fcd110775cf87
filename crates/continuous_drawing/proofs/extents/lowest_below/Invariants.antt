use Rattle.std.specs.Prelude.{◌≡◌, take}
use Rattle.continuous_drawing.specs.Extents.{lowest_below}
use Rattle.continuous_drawing.proofs.extents.lowest_below.Given as goal

abbrev pub invariant-loop-column : goal.invariant-loop-column
invariant-loop-column l = l.lowest ≡ lowest_below l.fn.number (take l.column-index l.columns)
