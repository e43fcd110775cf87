use Rattle.audit_base.specs.Bounds.{demand_of_order}
use Rattle.order_list.specs.Sums.{IsSumUpto}
use Rattle.volume_bound.proofs.direct.demand_at.Given as goal

abbrev pub invariant-loop-index : goal.invariant-loop-index
invariant-loop-index l = IsSumUpto (demand_of_order l.price) l.orders l.index l.sum
