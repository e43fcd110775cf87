use Rattle.std.specs.Prelude.{◌≡◌, ◌+◌, take}
use Rattle.call_picture.specs.Windows.{quantity_of_steps}
use Rattle.call_picture.proofs.windows.reach_of.Given as goal

abbrev pub invariant-loop-at : goal.invariant-loop-at
invariant-loop-at l = l.rest + quantity_of_steps (take l.at l.steps) ≡ l.fn.volume
