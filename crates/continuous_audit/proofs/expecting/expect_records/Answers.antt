use Rattle.std.proofs.Common.{ℕ, sym, subst, add-one}
use Rattle.continuous_audit.specs.Books.{next_order_place}
use Rattle.continuous_audit.specs.Endings.{AreEndingsDropped}
use Rattle.continuous_audit.specs.Matching.{AreTradesSoFar, MatchedBefore}
use Rattle.continuous_audit.proofs.expecting.expect_records.Goals as goal

pub loop-order-preserved : goal.loop-order-preserved
loop-order-preserved c =
    let orders = c.args.orders.now in
    let new = c.expect_record.new.so_far in
    let next = sym (add-one c.loop-order.order) in
    let after = c.in_ok-expect_record.ensures in
    record {
      dropped = subst (λ (m : ℕ). AreEndingsDropped c.args.endings.now new.books_so_far.start (next_order_place orders m)) next after.dropped;
      counted = subst (λ (m : ℕ). AreTradesSoFar orders m 0 new) next after.counted;
      matched = subst (λ (m : ℕ). MatchedBefore orders m (next_order_place orders m) new) next after.matched;
    }
