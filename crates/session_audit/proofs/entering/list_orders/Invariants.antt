use Rattle.std.proofs.Common.{◌≡◌}
use Rattle.session_audit.specs.Entering.{phase_list_by_amounts}
use Rattle.session_audit.proofs.entering.list_orders.Given as goal

abbrev pub invariant-loop-index : goal.invariant-loop-index
invariant-loop-index l = record {
  source : l.list.source ≡ l.orders;
  orders : l.list.orders ≡ phase_list_by_amounts l.orders l.first l.last l.amounts l.index;
}
