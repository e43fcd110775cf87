use Rattle.std.specs.Prelude.{◌≡◌, false, take}
use Rattle.std.specs.List.{list_any}
use Rattle.continuous_drawing.specs.Books.{is_long_line}
use Rattle.continuous_drawing.proofs.books.has_long_limit.Given as goal

abbrev pub invariant-loop-placed : goal.invariant-loop-placed
invariant-loop-placed l = list_any is_long_line (take l.placed-index l.lines) ≡ false
