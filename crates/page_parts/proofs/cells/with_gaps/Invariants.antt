use Rattle.std.specs.Prelude.{◌≡◌, ◌++◌}
use Rattle.page_parts.specs.TableElements.{gaps}
use Rattle.page_parts.proofs.cells.with_gaps.Given as goal

abbrev pub invariant-loop-cell : goal.invariant-loop-cell
invariant-loop-cell l = l.row ≡ l.fn.row ++ gaps l.cell
