use Rattle.std.specs.Prelude.{◌≡◌, take}
use Rattle.continuous_drawing.specs.Extents.{highest_price}
use Rattle.continuous_drawing.proofs.extents.highest_price.Given as goal

abbrev pub invariant-loop-column : goal.invariant-loop-column
invariant-loop-column l = l.highest ≡ highest_price (take l.column-index l.columns)
