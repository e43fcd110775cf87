use Rattle.std.proofs.Common.{◌≡◌, ◌+◌, ◌∙◌, suc, ap, subst, arith}
use Rattle.audit_base.specs.declared.orders.Order.{Order}
use Rattle.audit_base.specs.Orders.{place_at}
use Rattle.continuous_audit.specs.Endings.{AreEndingsBelow}
use Rattle.continuous_audit.specs.Holding.{resting_left_after_deals}
use Rattle.continuous_audit.proofs.ReadyLemmas.{dropped-more, others-hold}
use Rattle.continuous_audit.proofs.books.BooksSoFar.drop_own.Goals as goal

pub returns-clause-dropped : goal.returns-clause-dropped
returns-clause-dropped c =
    let orders = c.args.orders.now in
    let p = place_at orders c.args.order in
    let place_is : c.place-place.result ≡ p = c.place-place.ensures ∙ ap (λ (o : Order). o.place) c.at.ensures in
    let upto_is : c.place-place.result + 1 ≡ suc p = omega arith in
    dropped-more c.args.endings.now c.args.self.now.start c.drop_ended.new.self.start p (suc p) c.requires.dropped (omega arith)
    (subst (AreEndingsBelow c.args.endings.now c.args.self.now.start c.drop_ended.new.self.start) upto_is c.drop_ended.ensures.ended)

pub returns-clause-holds : goal.returns-clause-holds
returns-clause-holds c = λ deals named hold.
    let orders = c.args.orders.now in
    let p = place_at orders c.args.order in
    let place_is : c.place-place.result ≡ p = c.place-place.ensures ∙ ap (λ (o : Order). o.place) c.at.ensures in
    let upto_is : c.place-place.result + 1 ≡ suc p = omega arith in
    others-hold orders c.requires.order_list deals named c.args.order c.requires.order c.args.endings.now c.requires.endings c.args.self.now.start c.drop_ended.new.self.start _ c.drop_ended.ensures.ended upto_is
    c.requires.dropped c.drop_ended.new.self.books (c.drop_ended.ensures.holds (resting_left_after_deals orders deals p) hold)
