use Rattle.audit_certificate.proofs.BoundLemmas.{IsAboveSoFar}
use Rattle.audit_certificate.proofs.bounds.above_short_bids.Given as goal

abbrev pub invariant-loop-index : goal.invariant-loop-index
invariant-loop-index l = IsAboveSoFar l.orders l.traded l.index l.price
