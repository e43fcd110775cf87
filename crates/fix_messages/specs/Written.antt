-- How records are written as messages: the fields of a body, with values that are canonical
-- texts, and the frame around it.
use Rattle.std.specs.Prelude.{ℕ, ◌<◌, ◌^◌, IsTrue, List, [], ◌∷◌, ◌++◌, codes, decimal}
use Rattle.std.specs.List.{flat_map}
use Rattle.audit_base.specs.Moments.{Moment, end_of_time}
use Rattle.audit_base.specs.Names.{is_name}
use Rattle.audit_base.specs.Numbers.{AreInRange, price_text}
use Rattle.audit_base.specs.Histories.{HasMarketPrice}
use Rattle.audit_base.specs.Stamps.{stamp_text}
use Rattle.audit_base.specs.declared.names.Key.{Key}
use Rattle.audit_base.specs.declared.records.OrderRecord.{OrderRecord}
use Rattle.audit_base.specs.declared.records.OrderRecord.TheVariants as record_of
use Rattle.audit_base.specs.declared.records.TradeRecord.{TradeRecord}
use Rattle.audit_base.specs.declared.terms.Life.{Life}
use Rattle.audit_base.specs.declared.terms.Life.TheVariants as life
use Rattle.audit_base.specs.declared.terms.Side.{Side}
use Rattle.audit_base.specs.declared.terms.Side.TheVariants as side
use Rattle.fix_fields.specs.Grammar.{TagValue, bytes_of}
use Rattle.fix_framing.specs.Frames.{frame_text}
use Rattle.trade_reports.specs.Reports.{report_to, reports_of}
use Rattle.trade_reports.specs.declared.reports.Report.{Report}

-- the field with this tag and value
abbrev pub field : ℕ → List ℕ → TagValue
field tag value = record { tag = tag; value = value }

-- `1` for a bid, `2` for an ask
abbrev pub message_side_text : Side → List ℕ
message_side_text side.Buy = codes "1"
message_side_text side.Sell = codes "2"

-- the fields that the messages of an order log begin with
abbrev pub head_fields : List ℕ → Key → Moment → List ℕ → List TagValue
head_fields type key time symbol =
    field 35 type ∷ field 49 key.firm ∷ field 56 (codes "EXCHANGE") ∷ field 11 key.id
    ∷ field 60 (stamp_text time) ∷ field 55 symbol ∷ []

-- the fields of a side and a quantity
abbrev pub size_fields : Side → ℕ → List TagValue
size_fields side quantity = field 54 (message_side_text side) ∷ field 38 (decimal quantity) ∷ []

-- the fields of an order type, a price and a life: a market order has no price
abbrev pub limit_fields : Life → ℕ → List TagValue
limit_fields life.Rests price = field 40 (codes "2") ∷ field 44 (price_text price) ∷ []
limit_fields life.Immediate price =
    field 40 (codes "2") ∷ field 44 (price_text price) ∷ field 59 (codes "3") ∷ []
limit_fields life.Market price = field 40 (codes "1") ∷ []

-- the fields of an order's message
abbrev pub order_fields : OrderRecord → List TagValue
order_fields (record_of.New key time symbol side quantity price life) =
    head_fields (codes "D") key time symbol ++ size_fields side quantity
    ++ limit_fields life price
order_fields (record_of.Cancel key time symbol target) =
    head_fields (codes "F") key time symbol ++ field 41 target ∷ []
order_fields (record_of.Replace key time symbol target side quantity price) =
    head_fields (codes "G") key time symbol ++ field 41 target ∷ size_fields side quantity
    ++ limit_fields life.Rests price

-- the fields of a report's message
abbrev pub report_fields : Report → List TagValue
report_fields report =
    field 35 (codes "8") ∷ field 49 (codes "EXCHANGE") ∷ field 56 report.key.firm
    ∷ field 11 report.key.id ∷ field 150 (codes "F") ∷ field 527 report.trade
    ∷ field 60 (stamp_text report.time) ∷ field 55 report.symbol
    ∷ field 54 (message_side_text report.side) ∷ field 32 (decimal report.quantity)
    ∷ field 31 (price_text report.price) ∷ []

-- the message of an order, of a report, and the two messages of a trade
abbrev pub order_message : OrderRecord → List ℕ
order_message order = frame_text (bytes_of (order_fields order))

abbrev pub report_message : Report → List ℕ
report_message report = frame_text (bytes_of (report_fields report))

abbrev pub trade_message_pair : TradeRecord → List ℕ
trade_message_pair trade = flat_map report_message (reports_of trade)

-- the logs of these records, message by message
abbrev pub fix_orders_text : List OrderRecord → List ℕ
fix_orders_text orders = flat_map order_message orders

abbrev pub fix_trades_text : List TradeRecord → List ℕ
fix_trades_text trades = flat_map trade_message_pair trades

-- The parts of a record are in their forms, as they are of every record that a
-- program holds: its names, and its time.
pub record IsHead (key : Key) (time : Moment) (symbol : List ℕ) : Type 0 where
  pub firm_form : IsTrue (is_name key.firm)
  pub id_form : IsTrue (is_name key.id)
  pub symbol_form : IsTrue (is_name symbol)
  pub second_range : time.second < end_of_time
  pub nano_range : time.nano < 10 ^ 9

-- all parts of an order are in their forms
abbrev pub IsOrderInForm : OrderRecord → Type 0
IsOrderInForm (record_of.New key time symbol side quantity price life) =
    IsHead key time symbol × AreInRange quantity price
IsOrderInForm (record_of.Cancel key time symbol target) =
    IsHead key time symbol × IsTrue (is_name target)
IsOrderInForm (record_of.Replace key time symbol target side quantity price) =
    IsHead key time symbol × IsTrue (is_name target) × AreInRange quantity price

-- All parts of a report are in their forms.
pub record IsReportInForm (report : Report) : Type 0 where
  pub trade_form : IsTrue (is_name report.trade)
  pub head : IsHead report.key report.time report.symbol
  pub terms : AreInRange report.quantity report.price

-- All parts of a trade are in their forms, since those of its two reports are.
pub record IsTradeInForm (trade : TradeRecord) : Type 0 where
  pub buyer : IsReportInForm (report_to side.Buy trade)
  pub seller : IsReportInForm (report_to side.Sell trade)

-- An order that is written as a message that means it: its parts are in their
-- forms, and it has the price of its life.
pub record IsWritable (order : OrderRecord) : Type 0 where
  pub form : IsOrderInForm order
  pub priced : HasMarketPrice order
