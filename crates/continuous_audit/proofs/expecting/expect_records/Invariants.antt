use Rattle.continuous_audit.specs.Books.{next_order_place}
use Rattle.continuous_audit.specs.Endings.{AreEndingsDropped}
use Rattle.continuous_audit.specs.Matching.{AreTradesSoFar, MatchedBefore}
use Rattle.continuous_audit.proofs.expecting.expect_records.Given as goal

abbrev pub invariant-loop-order : goal.invariant-loop-order
invariant-loop-order l = record {
  dropped : AreEndingsDropped l.endings l.so_far.books_so_far.start (next_order_place l.orders l.order);
  counted : AreTradesSoFar l.orders l.order 0 l.so_far;
  matched : MatchedBefore l.orders l.order (next_order_place l.orders l.order) l.so_far;
}
