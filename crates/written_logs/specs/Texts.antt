-- A log as a text, in either form: canonical CSV, or FIX messages.
use Rattle.std.specs.Prelude.{◌≡◌, ℕ, List, [], Ok}
use Rattle.std.specs.Global.{Vec}
use Rattle.std.specs.List.{flat_map}
use Rattle.audit_base.specs.Columns.{order_columns}
use Rattle.audit_base.specs.declared.records.OrderRecord.{OrderRecord}
use Rattle.audit_base.specs.declared.records.TradeRecord.{TradeRecord}
use Rattle.audit_base.specs.declared.terms.Form.{Form}
use Rattle.audit_base.specs.declared.terms.Form.TheVariants.{Csv, Fix}
use Rattle.csv_logs.specs.Written.{csv_line_text, csv_orders_text, csv_trades_text, order_row}
use Rattle.fix_messages.specs.Written.{fix_orders_text, fix_trades_text}
use Rattle.log_verdict.specs.LogVerdicts.{records_of_order_log, trades_of_trade_log}

-- the log of these orders: the canonical CSV log, or a message for each
abbrev pub orders_text : Form → List OrderRecord → List ℕ
orders_text Csv entries = csv_orders_text entries
orders_text Fix entries = fix_orders_text entries

-- the log of these trades: the canonical CSV log, or two messages for each
abbrev pub trades_text : Form → List TradeRecord → List ℕ
trades_text Csv trades = csv_trades_text trades
trades_text Fix trades = fix_trades_text trades

-- what an order log begins with, before its first record: the header of a CSV log
abbrev pub order_head : Form → List ℕ
order_head Csv = csv_line_text order_columns
order_head Fix = []

-- what stands for these orders in a log: a line or a message for each
abbrev pub order_lines : Form → List OrderRecord → List ℕ
order_lines Csv entries = flat_map (λ entry. csv_line_text (order_row entry)) entries
order_lines Fix entries = fix_orders_text entries

-- The text is the log of these orders, and says exactly these.
pub record IsLogOfOrders (form : Form) (entries : List OrderRecord) (text : List ℕ) : Type 0 where
  pub text_is : text ≡ orders_text form entries
  pub again : records_of_order_log form text ≡ Ok entries

-- The text is the log of these trades, and says exactly these.
pub record IsLogOfTrades (form : Form) (trades : List TradeRecord) (text : List ℕ) : Type 0 where
  pub text_is : text ≡ trades_text form trades
  pub again : trades_of_trade_log form text ≡ Ok (Ok trades)

-- a text that was made is the log of these orders
abbrev pub IsMadeOfOrders : Form → Vec ℕ → List OrderRecord → Type 0
IsMadeOfOrders form text entries = IsLogOfOrders form entries text.items

-- a text that was made is the log of these trades
abbrev pub IsMadeOfTrades : Form → Vec ℕ → List TradeRecord → Type 0
IsMadeOfTrades form text trades = IsLogOfTrades form trades text.items
