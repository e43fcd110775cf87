use Rattle.std.proofs.Common.{List, sym, subst}
use Rattle.audit_base.specs.declared.orders.Order.{Order}
use Rattle.order_list.proofs.StoredLemmas.{stored-same}
use Rattle.instruction_history.specs.History.{IsHistoryOrders}
use Rattle.instruction_history.proofs.history_orders.HistoryOrders.of.Goals as goal

pub invariant_of-result : goal.invariant_of-result
invariant_of-result c =
    subst (λ (orders : List Order). IsHistoryOrders orders)
    (sym (stored-same c.args.keys c.for_numbers.result c.args.orders.items c.for_numbers.ensures)) c.requires

pub returns : goal.returns
returns c = stored-same c.args.keys c.for_numbers.result c.args.orders.items c.for_numbers.ensures
