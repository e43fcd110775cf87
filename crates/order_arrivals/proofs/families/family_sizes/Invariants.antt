use Rattle.order_arrivals.specs.Families.{AreFamilySizesFrom}
use Rattle.order_arrivals.proofs.families.family_sizes.Given as goal

abbrev pub invariant-loop-order : goal.invariant-loop-order
invariant-loop-order l = AreFamilySizesFrom l.orders l.order l.sizes.items

abbrev pub decreases-loop-order : goal.decreases-loop-order
decreases-loop-order l = l.order
