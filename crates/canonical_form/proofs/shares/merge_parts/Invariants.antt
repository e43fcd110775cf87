use Rattle.canonical_form.specs.Parts.{AreSharesSoFar}
use Rattle.canonical_form.proofs.shares.merge_parts.Given as goal

abbrev pub invariant-loop-at : goal.invariant-loop-at
invariant-loop-at l = AreSharesSoFar l.parts l.at l.shares.items l.share
