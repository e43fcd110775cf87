use Rattle.std.proofs.Common.{◌<◌, ℕ}
use Rattle.audit_base.specs.Orders.{place_at}
use Rattle.order_arrivals.specs.DealtOrders.{HaveTraded}
use Rattle.continuous_picture.proofs.books_at.totals_before.Given as goal

abbrev pub invariant-loop-order : goal.invariant-loop-order
invariant-loop-order l = record {
  traded : HaveTraded l.market l.order l.totals.added l.totals.traded.items;
  come : (x : ℕ) → x < l.order → place_at l.market.orders.now x < l.place;
}
