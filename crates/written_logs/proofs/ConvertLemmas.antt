-- The records of a log, written in another form.
use Rattle.std.proofs.Common.{◌≡◌, ◌∙◌, ap, subst, ℕ, List, Ok, Err, Result}
use Rattle.std.specs.Prelude.{⊤, All, IfOk}
use Rattle.std.specs.Global.{Vec}
use Rattle.audit_base.specs.Columns.{order_columns, trade_columns}
use Rattle.audit_base.specs.declared.faults.BadPlace.{BadPlace}
use Rattle.audit_base.specs.Histories.{HasMarketPrice}
use Rattle.audit_base.specs.declared.findings.Finding.{Finding}
use Rattle.audit_base.specs.declared.records.OrderRecord.{OrderRecord}
use Rattle.audit_base.specs.declared.records.TradeRecord.{TradeRecord}
use Rattle.audit_base.specs.declared.terms.Form.{Form}
use Rattle.audit_base.specs.declared.terms.Form.TheVariants.{Csv, Fix}
use Rattle.csv_logs.specs.declared.log_text.ConvertedLog.{ConvertedLog}
use Rattle.csv_logs.specs.Feeds.{HasLogRecords}
use Rattle.csv_logs.specs.OrderLines.{order_of_row}
use Rattle.csv_logs.specs.TradeLines.{trade_of_row}
use Rattle.csv_logs.specs.Written.{csv_orders_text, csv_trades_text, order_row, trade_row}
use Rattle.csv_logs.specs.WrittenLines.{IsConvertedLog}
use Rattle.csv_logs.proofs.PricedLemmas as csv_priced
use Rattle.csv_logs.proofs.ReadingLemmas as csv_reading
use Rattle.csv_logs.proofs.WrittenLemmas.{log-again}
use Rattle.fix_messages.specs.OrderTables.{order_of_message}
use Rattle.fix_messages.specs.Written.{IsOrderInForm, IsTradeInForm, IsWritable, order_message, trade_message_pair}
use Rattle.fix_messages.proofs.PricedLemmas as fix_priced
use Rattle.log_verdict.specs.Collecting.{HasLogTrades}
use Rattle.log_verdict.specs.LogVerdicts.{records_of_order_log, trades_of_trade_log, trades_without_pairing}
use Rattle.written_logs.specs.declared.message_log.MessageLog.{MessageLog}
use Rattle.written_logs.specs.Laws.{OrdersAreReadAgain, TradesAreReadAgain}
use Rattle.written_logs.specs.MessageLogs.{IsMessageLog}
use Rattle.written_logs.specs.Texts.{IsMadeOfOrders, IsMadeOfTrades}

-- market orders of a good log have the market price of their side
pub orders-priced : (form : Form) (bytes : List ℕ) → IfOk (records_of_order_log form bytes) (All HasMarketPrice)
orders-priced Csv bytes = csv_reading.log_sound order_of_row HasMarketPrice csv_priced.meaning-priced order_columns bytes
orders-priced Fix bytes = fix_priced.log_sound order_of_message HasMarketPrice fix_priced.meaning-priced bytes

priced : (said : Result (List OrderRecord) BadPlace) (entries : List OrderRecord) → said ≡ Ok entries → IfOk said (All HasMarketPrice) → All HasMarketPrice entries
priced (Ok found) entries e are = let same : found ≡ entries = cc in subst (All HasMarketPrice) same are
priced (Err bad) entries e are = absurd (cc e)

abbrev IsOrderConversion : ConvertedLog OrderRecord → List OrderRecord → Type 0
IsOrderConversion = IsConvertedLog order_columns order_of_row HasMarketPrice order_row

-- the CSV log of the records of a good order log
pub csv-orders-made : (form : Form) (bytes : List ℕ) (log : ConvertedLog OrderRecord) (text : Vec ℕ) → ((entries : List OrderRecord) → IsOrderConversion log entries → text.items ≡ csv_orders_text entries)
    → HasLogRecords (IsOrderConversion log) (records_of_order_log form bytes) → HasLogRecords (IsMadeOfOrders Csv text) (records_of_order_log form bytes)
csv-orders-made form bytes log text ends is =
    let text_is = ends is.entries is.has in
    let lines = is.has.text in
    record {
      entries = is.entries;
      has = record {
        text_is = text_is;
        again = ap (records_of_order_log Csv) text_is
            ∙ log-again order_columns order_of_row order_row HasMarketPrice is.entries lines.nine lines.unquoted lines.lines (priced (records_of_order_log form bytes) is.entries is.reads (orders-priced form bytes));
      };
      reads = is.reads;
    }

writable : (entries : List OrderRecord) → All IsOrderInForm entries → All HasMarketPrice entries → All IsWritable entries
writable entries forms prices = λ k d h. record { form = forms k d h; priced = prices k d h }

-- the FIX log of the records of a good order log
pub fix-orders-made : OrdersAreReadAgain → (form : Form) (bytes : List ℕ) (log : MessageLog OrderRecord)
    → HasLogRecords (IsMessageLog order_message IsOrderInForm log) (records_of_order_log form bytes) → HasLogRecords (IsMadeOfOrders Fix log.text) (records_of_order_log form bytes)
fix-orders-made again form bytes log is =
    let are = writable is.entries is.has.forms (priced (records_of_order_log form bytes) is.entries is.reads (orders-priced form bytes)) in
    record {
      entries = is.entries;
      has = record { text_is = is.has.text_is; again = ap (records_of_order_log Fix) is.has.text_is ∙ (again Fix is.entries are).again };
      reads = is.reads;
    }

abbrev IsTradeConversion : ConvertedLog TradeRecord → List TradeRecord → Type 0
IsTradeConversion = IsConvertedLog trade_columns trade_of_row (λ _. ⊤) trade_row

-- the CSV log of the trades of a good trade log
pub csv-trades-made : (said : Result (Result (List TradeRecord) Finding) BadPlace) (log : ConvertedLog TradeRecord) (text : Vec ℕ) → ((trades : List TradeRecord) → IsTradeConversion log trades → text.items ≡ csv_trades_text trades)
    → HasLogTrades (IsTradeConversion log) said → HasLogTrades (IsMadeOfTrades Csv text) said
csv-trades-made said log text ends is =
    let text_is = ends is.trades is.has in
    let lines = is.has.text in
    record {
      trades = is.trades;
      has = record {
        text_is = text_is;
        again = ap (trades_of_trade_log Csv) text_is ∙ ap trades_without_pairing (log-again trade_columns trade_of_row trade_row (λ _. ⊤) is.trades lines.nine lines.unquoted lines.lines (λ k d h. tt));
      };
      says = is.says;
    }

-- the FIX log of the trades of a good trade log
pub fix-trades-made : TradesAreReadAgain → (said : Result (Result (List TradeRecord) Finding) BadPlace) (log : MessageLog TradeRecord)
    → HasLogTrades (IsMessageLog trade_message_pair IsTradeInForm log) said → HasLogTrades (IsMadeOfTrades Fix log.text) said
fix-trades-made again said log is = record {
  trades = is.trades;
  has = record { text_is = is.has.text_is; again = ap (trades_of_trade_log Fix) is.has.text_is ∙ (again Fix is.trades is.has.forms).again };
  says = is.says;
}
