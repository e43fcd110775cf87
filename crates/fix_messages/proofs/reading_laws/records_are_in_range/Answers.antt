use Rattle.fix_messages.proofs.RangeLemmas.{orders-range, reports-range, trades-range}
use Rattle.fix_messages.proofs.reading_laws.records_are_in_range.Goals as goal

pub returns-clause-orders : goal.returns-clause-orders
returns-clause-orders c = orders-range

pub returns-clause-reports : goal.returns-clause-reports
returns-clause-reports c = reports-range

pub returns-clause-trades : goal.returns-clause-trades
returns-clause-trades c = trades-range c.paired_trades_are_in_range.ensures
