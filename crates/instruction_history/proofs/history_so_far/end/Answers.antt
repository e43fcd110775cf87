use Rattle.std.proofs.Common.{arith, refl}
use Rattle.order_list.proofs.StoredLemmas.{stored-end}
use Rattle.instruction_history.proofs.history_so_far.end.Goals as goal

pub returns-clause-items : goal.returns-clause-items
returns-clause-items c = λ keys.
    stored-end keys c.args.orders.now.items _ c.args.target c.args.place c.index_mut-order.result.now c.end.new.self (omega (arith, c.requires, c.args.orders.now.ok.0)) c.index_mut-order.ensures.value
    c.end.ensures.number c.end.ensures.order refl
