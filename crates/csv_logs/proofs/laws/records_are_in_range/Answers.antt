use Rattle.csv_logs.proofs.RangeLemmas.{orders-range, trades-range}
use Rattle.csv_logs.proofs.laws.records_are_in_range.Goals as goal

pub returns-clause-orders : goal.returns-clause-orders
returns-clause-orders c = orders-range

pub returns-clause-trades : goal.returns-clause-trades
returns-clause-trades c = trades-range
