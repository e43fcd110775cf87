use Rattle.std.proofs.Common.{ap}
use Rattle.fix_messages.specs.OrderTables.{order_meaning_of}
use Rattle.fix_messages.proofs.MeaningLemmas.{order-again, order-body}
use Rattle.fix_messages.proofs.laws.written_orders_mean_themselves.Goals as goal

pub returns-clause-fields : goal.returns-clause-fields
returns-clause-fields c = λ order is. (order-body order is).0

pub returns-clause-means : goal.returns-clause-means
returns-clause-means c = λ order is. ap order_meaning_of (order-again order is)
