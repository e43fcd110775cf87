use Rattle.std.specs.Prelude.{◌-◌}
use Rattle.page_plots.specs.SoFar.{IsPowerSoFar}
use Rattle.page_plots.proofs.rounds.least_power.Given as goal

abbrev pub invariant-loop-power : goal.invariant-loop-power
invariant-loop-power l = IsPowerSoFar l.fn.span l.fn.most l.power

abbrev pub decreases-loop-power : goal.decreases-loop-power
decreases-loop-power l = l.fn.span - l.power
