use Rattle.page_plots.proofs.RoundLemmas.{power-next}
use Rattle.page_plots.proofs.rounds.least_power.Goals as goal

pub loop-power-preserved : goal.loop-power-preserved
loop-power-preserved c = power-next c.args.span c.args.most c.loop-power.power c.requires.some c.loop-power.invariant c.loop-power-test.true
