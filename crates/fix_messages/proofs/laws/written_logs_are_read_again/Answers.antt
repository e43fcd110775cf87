use Rattle.fix_messages.proofs.AgainLemmas.{orders-again, trades-again}
use Rattle.fix_messages.proofs.laws.written_logs_are_read_again.Goals as goal

pub returns-clause-orders : goal.returns-clause-orders
returns-clause-orders c = orders-again

pub returns-clause-reports : goal.returns-clause-reports
returns-clause-reports c = trades-again
