use Rattle.std.proofs.Common.{◌≡◌, ◌++◌}
use Rattle.audit_certificate.specs.OrderLines.{order_lines_upto}
use Rattle.audit_certificate.proofs.order_lines.append_order_lines.Given as goal

abbrev pub invariant-loop-index : goal.invariant-loop-index
invariant-loop-index l = l.out.items ≡ l.initial.out.items ++ order_lines_upto l.orders l.traded l.index
