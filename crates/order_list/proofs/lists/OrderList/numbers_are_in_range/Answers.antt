use Rattle.std.proofs.Common.{All, List, subst, arith}
use Rattle.std.proofs.lemmas.List.{take_all}
use Rattle.std.proofs.lemmas.List.Elements.{All-more}
use Rattle.audit_base.specs.declared.orders.Order.{Order}
use Rattle.audit_base.specs.Orders.{OrderInRange, order_past_end}
use Rattle.order_list.proofs.lists.OrderList.numbers_are_in_range.Goals as goal

pub loop-index-preserved : goal.loop-index-preserved
loop-index-preserved c =
    All-more OrderInRange c.args.self.now c.loop-index.index order_past_end (omega (arith, c.loop-index-test.true, c.len-index-end.ensures)) c.loop-index.invariant
    (subst OrderInRange c.at.ensures c.numbers_are_in_range.ensures)

pub returns : goal.returns
returns c =
    subst (λ (orders : List Order). All OrderInRange orders) (take_all c.loop-index.index c.args.self.now (omega (arith, c.loop-index-test.false, c.len-index-end.ensures))) c.loop-index.invariant
