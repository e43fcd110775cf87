use Rattle.std.specs.Prelude.{◌≡◌, ◌++◌, take}
use Rattle.std.specs.List.{flat_map}
use Rattle.continuous_drawing.specs.Marks.{mark_at_line}
use Rattle.continuous_drawing.proofs.marks.with_mark_at_lines.Given as goal

abbrev pub invariant-loop-placed : goal.invariant-loop-placed
invariant-loop-placed l = l.made
    ≡ l.fn.made ++ flat_map (mark_at_line l.orders l.number l.shown) (take l.placed-index l.lines)
