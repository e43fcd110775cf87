use Rattle.audit_base.specs.Columns.{order_columns, trade_columns}
use Rattle.csv_logs.specs.OrderLines.{order_of_row}
use Rattle.csv_logs.specs.TradeLines.{trade_of_row}
use Rattle.csv_logs.proofs.ReadingLemmas.{only-reading}
use Rattle.csv_logs.proofs.laws.logs_are_read_once.Goals as goal

pub returns-clause-orders : goal.returns-clause-orders
returns-clause-orders c = only-reading order_columns order_of_row

pub returns-clause-trades : goal.returns-clause-trades
returns-clause-trades c = only-reading trade_columns trade_of_row
