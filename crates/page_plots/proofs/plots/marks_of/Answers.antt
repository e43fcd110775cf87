use Rattle.std.proofs.Common.{arith}
use Rattle.page_plots.proofs.PlotLemmas.{step-bounded, step-some}
use Rattle.page_plots.proofs.plots.marks_of.Goals as goal

pub ticks_of-requires-clause-some : goal.ticks_of-requires-clause-some
ticks_of-requires-clause-some c = step-some _ _ _ c.round_step-step.ensures

pub ticks_of-requires-clause-fits : goal.ticks_of-requires-clause-fits
ticks_of-requires-clause-fits c =
    let below = c.requires.axis.numbers in
    let most = step-bounded _ _ _ (omega (arith, below)) c.requires.some c.round_step-step.ensures in
    omega (arith, below, most)

pub returns : goal.returns
returns c = record { step = c.round_step-step.result; is_step = c.round_step-step.ensures; multiples = c.in_ok-marks.ensures }
