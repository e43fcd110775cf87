use Rattle.std.specs.Prelude.{◌≡◌, ◌++◌, take}
use Rattle.std.specs.List.{flat_map}
use Rattle.continuous_drawing.specs.Books.{line_shapes}
use Rattle.continuous_drawing.proofs.books.with_book.Given as goal

abbrev pub invariant-loop-placed : goal.invariant-loop-placed
invariant-loop-placed l = l.made ≡ l.fn.made ++ flat_map (line_shapes l.orders l.side) (take l.placed-index l.lines)
