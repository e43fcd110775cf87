use Rattle.std.specs.Prelude.{◌≡◌, ◌++◌, take}
use Rattle.std.specs.List.{flat_map}
use Rattle.call_drawing.specs.Marks.{mark_at_step}
use Rattle.call_drawing.proofs.marks.with_mark_at_steps.Given as goal

abbrev pub invariant-loop-placed : goal.invariant-loop-placed
invariant-loop-placed l = l.made
    ≡ l.fn.made ++ flat_map (mark_at_step l.orders l.by_limit l.mark.number.now l.mark.line.now) (take l.placed-index l.steps)
