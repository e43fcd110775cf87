use Rattle.std.proofs.Common.{◌-◌, length}
use Rattle.fix_fields.specs.Ends.{HoldsEnds}
use Rattle.fix_fields.proofs.HandLemmas.{Hands}
use Rattle.fix_fields.proofs.split.hand_fields.Given as goal

abbrev pub invariant-loop-at : goal.invariant-loop-at
invariant-loop-at g l =
    Hands (g.T.FieldTaker.has_taken l.taker) l.body l.counter l.at × HoldsEnds l.body l.at l.ends

abbrev pub decreases-loop-at : goal.decreases-loop-at
decreases-loop-at g l = length l.body - l.at
