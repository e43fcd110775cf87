use Rattle.std.specs.Prelude.{◌≤◌, ◌+◌, ◌*◌, ◌-◌}
use Rattle.page_plots.specs.SoFar.{AreTicksSoFar}
use Rattle.page_plots.proofs.ticks.ticks_of.Given as goal

abbrev pub invariant-loop-times : goal.invariant-loop-times
invariant-loop-times l = AreTicksSoFar l.fn.first l.fn.last l.fn.step l.times l.ticks.items × (l.times * l.fn.step ≤ l.fn.last + l.fn.step) × (l.fn.first ≤ l.times * l.fn.step)

abbrev pub decreases-loop-times : goal.decreases-loop-times
decreases-loop-times l = l.fn.last + 1 + l.fn.step - l.times * l.fn.step
