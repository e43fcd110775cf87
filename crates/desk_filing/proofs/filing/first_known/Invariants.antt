use Rattle.std.proofs.Common.{length}
use Rattle.desk_filing.specs.Steps.{FoundNoneSoFar}
use Rattle.desk_filing.proofs.filing.first_known.Given as goal

-- no label so far has a case on file
abbrev pub invariant-loop-one : goal.invariant-loop-one
invariant-loop-one g l = FoundNoneSoFar (g.B.DigestKeeper.state l.fn.keeper) (g.B.DigestKeeper.state l.keeper) l.cases l.rest

abbrev pub decreases-loop-one : goal.decreases-loop-one
decreases-loop-one g l = length l.rest
