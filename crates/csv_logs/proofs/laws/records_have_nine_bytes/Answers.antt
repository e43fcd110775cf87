use Rattle.audit_base.specs.Columns.{order_columns, trade_columns}
use Rattle.csv_logs.specs.OrderLines.{order_of_row}
use Rattle.csv_logs.specs.TradeLines.{trade_of_row}
use Rattle.csv_logs.proofs.SizeLemmas.{log_nine}
use Rattle.csv_logs.proofs.laws.records_have_nine_bytes.Goals as goal

pub returns-clause-orders : goal.returns-clause-orders
returns-clause-orders c = log_nine order_of_row order_columns

pub returns-clause-trades : goal.returns-clause-trades
returns-clause-trades c = log_nine trade_of_row trade_columns
