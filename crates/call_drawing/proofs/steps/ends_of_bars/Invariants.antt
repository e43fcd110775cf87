use Rattle.std.specs.Prelude.{◌≡◌, ◌++◌, codes, take}
use Rattle.std.specs.List.{flat_map}
use Rattle.call_drawing.specs.Steps.{ends_of_bar}
use Rattle.call_drawing.proofs.steps.ends_of_bars.Given as goal

abbrev pub invariant-loop-placed : goal.invariant-loop-placed
invariant-loop-placed l = l.path.items ≡ codes "M" ++ flat_map ends_of_bar (take l.placed-index l.steps)
