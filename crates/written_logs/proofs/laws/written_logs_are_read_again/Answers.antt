use Rattle.written_logs.proofs.LawLemmas.{orders-again, trades-again}
use Rattle.written_logs.proofs.laws.written_logs_are_read_again.Goals as goal

pub returns-clause-orders : goal.returns-clause-orders
returns-clause-orders c = orders-again c.written_logs_are_read_again.ensures.orders

pub returns-clause-trades : goal.returns-clause-trades
returns-clause-trades c = trades-again c.written_logs_are_read_again.ensures.reports c.written_logs_are_read_again.ensures.pairs
