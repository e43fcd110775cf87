use Rattle.std.specs.Prelude.{◌≡◌, take}
use Rattle.call_picture.specs.Windows.{quantity_of_steps}
use Rattle.call_picture.proofs.windows.quantity_of_steps.Given as goal

abbrev pub invariant-loop-step : goal.invariant-loop-step
invariant-loop-step l = l.total ≡ quantity_of_steps (take l.step-index l.steps)
