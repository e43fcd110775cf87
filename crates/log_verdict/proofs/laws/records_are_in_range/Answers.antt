use Rattle.log_verdict.proofs.RangeLemmas.{orders-range, trades-range}
use Rattle.log_verdict.proofs.laws.records_are_in_range.Goals as goal

pub returns-clause-orders : goal.returns-clause-orders
returns-clause-orders c = orders-range c.records_are_in_range.ensures.orders c.records_are_in_range-2.ensures.orders

pub returns-clause-trades : goal.returns-clause-trades
returns-clause-trades c = trades-range c.records_are_in_range.ensures.trades c.records_are_in_range-2.ensures.trades
