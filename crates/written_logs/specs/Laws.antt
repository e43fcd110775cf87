-- The laws of logs that are written, in one sentence each.
use Rattle.std.specs.Prelude.{◌≡◌, All, List, Ok}
use Rattle.audit_base.specs.declared.records.OrderRecord.{OrderRecord}
use Rattle.audit_base.specs.declared.records.TradeRecord.{TradeRecord}
use Rattle.audit_base.specs.declared.terms.Form.{Form}
use Rattle.audit_report.specs.declared.verdicts.Verdict.{Verdict}
use Rattle.fix_messages.specs.Written.{IsTradeInForm, IsWritable}
use Rattle.log_verdict.specs.LogVerdicts.{HaveRecords, IsLogVerdict, Log}
use Rattle.record_verdict.specs.declared.questions.Question.{Question}
use Rattle.written_logs.specs.Texts.{IsLogOfOrders, IsLogOfTrades, orders_text, trades_text}

-- the log of orders whose parts are in their forms says these orders, in either form
abbrev pub OrdersAreReadAgain : Type 0
OrdersAreReadAgain = (form : Form) (entries : List OrderRecord) → All IsWritable entries
    → IsLogOfOrders form entries (orders_text form entries)

-- the log of trades whose parts are in their forms says these trades, in either form
abbrev pub TradesAreReadAgain : Type 0
TradesAreReadAgain = (form : Form) (trades : List TradeRecord) → All IsTradeInForm trades
    → IsLogOfTrades form trades (trades_text form trades)

-- two logs that were written of the records of two others, in whatever forms, have the verdict of
-- those on each question
abbrev pub WrittenLogsHaveTheVerdict : Type 0
WrittenLogsHaveTheVerdict = (q : Question) (orders trades written_orders written_trades : Log)
    (entries : List OrderRecord) (list : List TradeRecord) (a b : Verdict)
    → HaveRecords orders trades entries (Ok list)
    → IsLogOfOrders written_orders.form entries written_orders.bytes
    → IsLogOfTrades written_trades.form list written_trades.bytes
    → IsLogVerdict q orders trades a → IsLogVerdict q written_orders written_trades b → a ≡ b
