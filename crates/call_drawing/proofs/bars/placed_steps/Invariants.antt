use Rattle.call_drawing.proofs.BarLemmas.{ArePlacedSoFar}
use Rattle.call_drawing.proofs.bars.placed_steps.Given as goal

abbrev pub invariant-loop-step : goal.invariant-loop-step
invariant-loop-step l = ArePlacedSoFar l.fn.plot l.fn.side l.fn.drawn l.step-index l.start l.steps.items
