use Rattle.std.specs.Prelude.{◌≡◌, take}
use Rattle.continuous_drawing.specs.BookLayouts.{most_of}
use Rattle.continuous_drawing.proofs.book_layouts.most_of.Given as goal

abbrev pub invariant-loop-line : goal.invariant-loop-line
invariant-loop-line l = l.most ≡ most_of l.orders l.fn.number (take l.line-index l.lines)
