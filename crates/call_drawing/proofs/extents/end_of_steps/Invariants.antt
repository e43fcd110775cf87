use Rattle.std.specs.Prelude.{◌≡◌}
use Rattle.call_drawing.specs.Bars.{start_of}
use Rattle.call_drawing.proofs.extents.end_of_steps.Given as goal

abbrev pub invariant-loop-step : goal.invariant-loop-step
invariant-loop-step l = l.end ≡ start_of l.fn.drawn l.step-index
