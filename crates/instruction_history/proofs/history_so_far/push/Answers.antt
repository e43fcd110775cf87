use Rattle.order_list.specs.Stored.{order_with}
use Rattle.order_list.proofs.StoredLemmas.{stored-more}
use Rattle.instruction_history.proofs.history_so_far.push.Goals as goal

pub returns-clause-items : goal.returns-clause-items
returns-clause-items c = λ keys.
    stored-more keys c.args.orders.now.items c.push.new.self.items c.of.result c.args.parts.now.number (λ key. order_with key c.args.parts.now) c.of.ensures.number c.of.ensures.order c.in_ok-push.ensures.items
