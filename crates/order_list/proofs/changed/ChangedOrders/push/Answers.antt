use Rattle.std.proofs.Common.{◌<◌, ap, ◌∙◌, arith, length, List}
use Rattle.std.proofs.lemmas.List.{length-map}
use Rattle.audit_base.specs.declared.orders.Order.{Order}
use Rattle.audit_base.specs.Orders.{order_at}
use Rattle.order_list.specs.Changed.{ChangedList, with_terms, with_changed_order}
use Rattle.order_list.specs.Stored.{order_of, orders_of}
use Rattle.order_list.proofs.StoredLemmas.{changed-more}
use Rattle.order_list.proofs.changed.ChangedOrders.push.Goals as goal

pub returns : goal.returns
returns c =
    let keys = c.self.inside.keys.now in
    let source = c.self.inside.source.now in
    let terms = c.args.terms in
    let lt : c.args.index < length source = omega (arith, c.requires.inside, ap (λ (v : ChangedList). length v.source) c.self.view_is, length-map source (order_of keys)) in
    let more = changed-more keys source c.self.inside.orders.items c.push.new.self.items c.args.index c.index-source-index.result c.with_terms.result terms.quantity terms.cancelled terms.target lt
    c.index-source-index.is c.with_terms.ensures.number c.with_terms.ensures.order c.in_ok-push.ensures.items in
    ap (λ (orders : List Order). record { source = orders_of keys source; orders = orders }) more
    ∙ ap (λ (v : ChangedList). with_changed_order (with_terms terms.quantity terms.cancelled terms.target (order_at v.source c.args.index)) v) c.self.view_is
