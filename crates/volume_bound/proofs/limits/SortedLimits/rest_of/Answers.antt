use Rattle.std.proofs.Common.{ap, arith}
use Rattle.volume_bound.specs.Limits.{quantity_of_limits}
use Rattle.volume_bound.proofs.LimitLemmas.{below-and-from}
use Rattle.volume_bound.proofs.limits.SortedLimits.rest_of.Goals as goal

pub overflow_sub-result : goal.overflow_sub-result
overflow_sub-result c =
    let whole = c.self.invariant.whole in
    let below = c.requires in
    omega (arith, whole, ap quantity_of_limits c.self.view_is, below, below-and-from c.args.self.now c.args.price)

pub returns-clause-same : goal.returns-clause-same
returns-clause-same c =
    let whole = c.self.invariant.whole in
    let below = c.requires in
    omega (arith, whole, ap quantity_of_limits c.self.view_is, below, below-and-from c.args.self.now c.args.price)
