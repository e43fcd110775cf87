use Rattle.audit_certificate.proofs.OrderLemmas.{AreOrderLinesUpto}
use Rattle.audit_certificate.proofs.order_lines.check_order_lines.Given as goal

abbrev pub invariant-loop-index : goal.invariant-loop-index
invariant-loop-index l = AreOrderLinesUpto l.orders l.traded l.bytes l.index l.rest
