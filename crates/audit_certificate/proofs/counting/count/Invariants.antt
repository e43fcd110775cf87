use Rattle.audit_base.proofs.TotalsLemmas.{AreTotalsSoFar}
use Rattle.audit_certificate.proofs.counting.count.Given as goal

abbrev pub invariant-deals : goal.invariant-deals
invariant-deals l = AreTotalsSoFar l.orders l.deals l.deal-index l.traded.items l.volume
