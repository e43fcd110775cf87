use Rattle.std.proofs.Common.{◌-◌, length}
use Rattle.fix_framing.proofs.BreakLemmas.{Passed}
use Rattle.fix_framing.proofs.breaks.skip_breaks.Given as goal

abbrev pub invariant-loop-place : goal.invariant-loop-place
invariant-loop-place l = Passed l.bytes l.at l.place

abbrev pub decreases-loop-place : goal.decreases-loop-place
decreases-loop-place l = length l.bytes - l.place
