use Rattle.continuous_drawing.proofs.RowLemmas.{ArePlacedSoFar}
use Rattle.continuous_drawing.proofs.book_layouts.place_lines.Given as goal

abbrev pub invariant-loop-line : goal.invariant-loop-line
invariant-loop-line l = ArePlacedSoFar l.orders l.fn.most l.fn.first l.lines l.line-index l.placed.items
