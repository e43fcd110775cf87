use Rattle.std.proofs.Common.{◌≡◌, List, length}
use Rattle.audit_base.specs.declared.orders.Deal.{Deal}
use Rattle.session_audit.specs.Leaving.{HasContinuousTotals, sizes_below}
use Rattle.session_audit.proofs.leaving.sizes_of.Given as goal

abbrev pub invariant-loop-index : goal.invariant-loop-index
invariant-loop-index l = record {
  long : length l.sizes.items ≡ l.index;
  are : (deals : List Deal) → HasContinuousTotals l.orders deals l.traded → l.sizes.items ≡ sizes_below l.orders deals l.index;
}
