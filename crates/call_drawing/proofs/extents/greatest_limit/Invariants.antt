use Rattle.std.specs.Prelude.{◌≡◌, take}
use Rattle.call_drawing.specs.Extents.{greatest_limit}
use Rattle.call_drawing.proofs.extents.greatest_limit.Given as goal

abbrev pub invariant-loop-step : goal.invariant-loop-step
invariant-loop-step l = l.greatest ≡ greatest_limit l.fn.number (take l.step-index l.steps)
