use Rattle.std.proofs.Common.{suc, subst}
use Rattle.audit_base.specs.Orders.{place_at}
use Rattle.audit_base.specs.Continuous.{traded_before}
use Rattle.continuous_audit.specs.Books.{next_order_place}
use Rattle.continuous_audit.specs.Endings.{AreEndingsBelow}
use Rattle.continuous_audit.specs.Holding.{resting_left_before}
use Rattle.continuous_audit.proofs.ReadyLemmas.{dropped-more, next-above, next-holds}
use Rattle.continuous_audit.proofs.books.BooksSoFar.drop_before_next.Goals as goal

pub returns-clause-dropped : goal.returns-clause-dropped
returns-clause-dropped c =
    dropped-more c.args.endings.now c.args.self.now.start c.drop_ended.new.self.start (suc (place_at c.args.orders.now c.args.order)) (next_order_place c.args.orders.now (suc c.args.order)) c.requires.dropped
    (next-above c.args.orders.now c.requires.order_list c.args.order c.requires.order)
    (subst (AreEndingsBelow c.args.endings.now c.args.self.now.start c.drop_ended.new.self.start) c.next_place.ensures c.drop_ended.ensures.ended)

pub returns-clause-holds : goal.returns-clause-holds
returns-clause-holds c = λ deals named hold.
    let orders = c.args.orders.now in
    next-holds orders c.requires.order_list deals named c.args.order c.requires.order c.args.endings.now c.requires.endings c.args.self.now.start c.drop_ended.new.self.start _ c.drop_ended.ensures.ended c.next_place.ensures
    c.requires.dropped c.drop_ended.new.self.books (c.drop_ended.ensures.holds (resting_left_before orders (traded_before orders deals) (suc (place_at orders c.args.order))) hold)
