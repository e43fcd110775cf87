use Rattle.std.specs.Prelude.{◌≡◌, take}
use Rattle.std.specs.List.{flat_map}
use Rattle.page_parts.specs.TableElements.{column_heading}
use Rattle.page_parts.proofs.cells.head_of.Given as goal

abbrev pub invariant-loop-column : goal.invariant-loop-column
invariant-loop-column l = l.row ≡ flat_map column_heading (take l.column-index l.columns)
