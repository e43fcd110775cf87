use Rattle.std.specs.Prelude.{◌≡◌, ◌++◌, take}
use Rattle.std.specs.List.{flat_map}
use Rattle.call_drawing.specs.Steps.{step_shapes}
use Rattle.call_drawing.proofs.steps.with_steps.Given as goal

abbrev pub invariant-loop-placed : goal.invariant-loop-placed
invariant-loop-placed l =
    l.made ≡ l.fn.made ++ flat_map (step_shapes l.orders l.side l.by_limit) (take l.placed-index l.steps)
