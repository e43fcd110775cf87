use Rattle.audit_certificate.proofs.LastLemmas.{IsLastSoFar}
use Rattle.audit_certificate.proofs.last_orders.last_trading.Given as goal

abbrev pub invariant-loop-index : goal.invariant-loop-index
invariant-loop-index l = IsLastSoFar l.orders l.traded l.side l.index l.last
