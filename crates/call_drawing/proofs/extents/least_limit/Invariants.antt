use Rattle.std.specs.Prelude.{◌≡◌, take}
use Rattle.call_drawing.specs.Extents.{least_limit}
use Rattle.call_drawing.proofs.extents.least_limit.Given as goal

abbrev pub invariant-loop-step : goal.invariant-loop-step
invariant-loop-step l = l.least ≡ least_limit l.fn.number (take l.step-index l.steps)
