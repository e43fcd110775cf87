use Rattle.audit_base.specs.Bounds.{supply_of_order}
use Rattle.order_list.specs.Sums.{IsSumUpto}
use Rattle.volume_bound.proofs.direct.supply_upto.Given as goal

abbrev pub invariant-loop-index : goal.invariant-loop-index
invariant-loop-index l = IsSumUpto (supply_of_order l.price) l.orders l.index l.sum
