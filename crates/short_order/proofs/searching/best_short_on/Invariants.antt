use Rattle.short_order.specs.ShortOrders.{is_short_on}
use Rattle.short_order.specs.Searching.{IsFoundBelow}
use Rattle.short_order.proofs.searching.best_short_on.Given as goal

abbrev pub invariant-loop-index : goal.invariant-loop-index
invariant-loop-index l = IsFoundBelow l.orders (is_short_on l.orders l.traded l.fn.side) l.index l.held
