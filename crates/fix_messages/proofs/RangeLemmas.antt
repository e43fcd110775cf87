-- The numbers of each record of a good log are in range.
use Rattle.std.proofs.Common.{◌≡◌, ◌<◌, ◌^◌, ℕ, List, Option, Some, None, Result, Ok, Err, refl, inl, inr}
use Rattle.std.specs.Prelude.{IfOk, IfSome, codes}
use Rattle.std.proofs.lemmas.Bool.{cases_Bool}
use Rattle.audit_base.specs.declared.faults.BadPlace.{BadPlace}
use Rattle.audit_base.specs.declared.records.OrderRecord.{OrderRecord}
use Rattle.audit_base.specs.declared.terms.Side.{Side}
use Rattle.audit_base.specs.Numbers.{AreInRange, IsPrice, IsQuantity, market_price, price_form, quantity_form}
use Rattle.audit_base.specs.RecordRanges.{RecordInRange}
use Rattle.audit_base.specs.Trades.{TradesInRange}
use Rattle.audit_base.proofs.RangeLemmas.{market-range, price-range, quantity-range}
use Rattle.fix_fields.specs.Grammar.{TagValue}
use Rattle.fix_messages.specs.declared.meanings.MessageFault.{MessageFault}
use Rattle.fix_messages.specs.declared.orders.OrderType.{OrderType}
use Rattle.fix_messages.specs.declared.orders.OrderType.TheVariants as limits
use Rattle.fix_messages.specs.Laws.{FixOrdersAreInRange, ReportsAreInRange, FixTradesAreInRange}
use Rattle.fix_messages.specs.Logs.{fix_report_records}
use Rattle.fix_messages.specs.OrderTables as table
use Rattle.fix_messages.specs.OrderTables.{message_cancel, message_life, message_limit_type, message_order_type, message_new_order, order_by_type, order_of_message, price_of_order_type, message_replacement, message_resting_life, no_quantity_condition}
use Rattle.fix_messages.specs.ReportTable as report_table
use Rattle.fix_messages.specs.ReportTable.{is_skipped_message, report_of_message, trade_report}
use Rattle.fix_messages.specs.Rows.{message_head, in_form, is_copy, is_value_word, message_name, only_value, message_price, message_quantity, required_value, message_side, message_type_row, type_of, message_word}
use Rattle.fix_messages.proofs.PricedLemmas.{behind, behind-known, log_sound}
use Rattle.trade_reports.specs.declared.reports.Report.{Report}
use Rattle.trade_reports.specs.Pairings.{pairing}
use Rattle.trade_reports.specs.Ranges.{ReportsInRange, PairedTradesAreInRange}

form-known : (Q : ℕ → Type 0) (tag : ℕ) (found : Option ℕ) → ((value : ℕ) → found ≡ Some value → Q value) → IfOk (in_form tag found) Q
form-known Q tag None each = tt
form-known Q tag (Some value) each = each value refl

quantity-known : (tag : ℕ) (fields : List TagValue) → IfOk (message_quantity tag fields) IsQuantity
quantity-known tag fields = behind IsQuantity (required_value tag fields) _ (λ text. form-known IsQuantity tag (quantity_form text) (quantity-range text))

price-known : (tag : ℕ) (fields : List TagValue) → IfOk (message_price tag fields) IsPrice
price-known tag fields = behind IsPrice (required_value tag fields) _ (λ text. form-known IsPrice tag (price_form text) (price-range text))

by-limits : (chosen : OrderType) (side : Side) (tag : ℕ) (fields : List TagValue) → IfOk (price_of_order_type chosen side tag fields) IsPrice
by-limits limits.Limit side tag fields = price-known tag fields
by-limits limits.Market side tag fields = behind IsPrice (only_value tag fields) (λ _. Ok (market_price side)) (λ _. market-range side)

new-known : (fields : List TagValue) → IfOk (message_new_order fields) RecordInRange
unfolding message_new_order
new-known fields =
    behind RecordInRange (message_type_row (codes "D") fields) _ (λ _. behind RecordInRange (message_head 49 fields) _ (λ _. behind RecordInRange (message_side 54 fields) _ (λ side.
    behind-known IsQuantity RecordInRange (message_quantity 38 fields) _ (quantity-known 38 fields) (λ quantity is.
    behind RecordInRange (message_order_type 40 fields) _ (λ chosen.
    behind-known IsPrice RecordInRange (price_of_order_type chosen side 44 fields) _ (by-limits chosen side 44 fields) (λ price priced.
    behind RecordInRange (message_life 59 fields) _ (λ _. behind RecordInRange (no_quantity_condition fields) _ (λ _. record { sized = is; priced = priced }))))))))

cancel-known : (fields : List TagValue) → IfOk (message_cancel fields) RecordInRange
unfolding message_cancel
cancel-known fields = behind RecordInRange (message_type_row (codes "F") fields) _ (λ _. behind RecordInRange (message_head 49 fields) _ (λ _. behind RecordInRange (message_name 41 fields) _ (λ _. tt)))

replace-known : (fields : List TagValue) → IfOk (message_replacement fields) RecordInRange
unfolding message_replacement
replace-known fields =
    behind RecordInRange (message_type_row (codes "G") fields) _ (λ _. behind RecordInRange (message_head 49 fields) _ (λ _. behind RecordInRange (message_name 41 fields) _ (λ _. behind RecordInRange (message_side 54 fields) _ (λ _.
    behind-known IsQuantity RecordInRange (message_quantity 38 fields) _ (quantity-known 38 fields) (λ quantity is.
    behind RecordInRange (message_limit_type 40 fields) _ (λ _.
    behind-known IsPrice RecordInRange (message_price 44 fields) _ (price-known 44 fields) (λ price priced.
    behind RecordInRange (message_resting_life 59 fields) _ (λ _. behind RecordInRange (no_quantity_condition fields) _ (λ _. record { sized = is; priced = priced })))))))))

abbrev IsEntry : Option OrderRecord → Type 0
IsEntry entry = IfSome entry RecordInRange

entry-known : (order : Result OrderRecord MessageFault) → IfOk order RecordInRange → IfOk (table.some_order order) IsEntry
entry-known (Ok order) is = is
entry-known (Err why) is = tt

kind-known : (type : List ℕ) (fields : List TagValue) → IfOk (order_by_type type fields) IsEntry
kind-known type fields = elim (cases_Bool (is_value_word (codes "D") type)) [
  | inl new ↦ rw new (entry-known (message_new_order fields) (new-known fields))
  | inr no_new ↦ elim (cases_Bool (is_value_word (codes "F") type)) [
    | inl cancels ↦ rw (no_new, cancels) (entry-known (message_cancel fields) (cancel-known fields))
    | inr no_cancel ↦ elim (cases_Bool (is_value_word (codes "G") type)) [
      | inl replaces ↦ rw (no_new, no_cancel, replaces) (entry-known (message_replacement fields) (replace-known fields))
      | inr other ↦ rw (no_new, no_cancel, other) tt
    ]
  ]
]

order-known : (fields : List TagValue) → IfOk (order_of_message fields) (λ found. IfSome found RecordInRange)
unfolding order_of_message
order-known fields = elim (cases_Bool (is_copy fields)) [
  | inl copy ↦ rw copy tt
  | inr other ↦ rw other (kind-known (type_of fields) fields)
]

abbrev IsReport : Report → Type 0
IsReport report = AreInRange report.quantity report.price

trade-known : (fields : List TagValue) → IfOk (trade_report fields) IsReport
unfolding trade_report
trade-known fields =
    behind IsReport (message_type_row (codes "8") fields) _ (λ _. behind IsReport (message_word (codes "F") 150 fields) _ (λ _. behind IsReport (message_name 527 fields) _ (λ _. behind IsReport (message_head 56 fields) _ (λ _. behind IsReport (message_side 54 fields) _ (λ _.
    behind-known IsQuantity IsReport (message_quantity 32 fields) _ (quantity-known 32 fields) (λ quantity is.
    behind-known IsPrice IsReport (message_price 31 fields) _ (price-known 31 fields) (λ price priced. record { sized = is; priced = priced })))))))

report-entry-known : (report : Result Report MessageFault) → IfOk report IsReport → IfOk (report_table.some_report report) (λ found. IfSome found IsReport)
report-entry-known (Ok report) is = is
report-entry-known (Err why) is = tt

report-known : (fields : List TagValue) → IfOk (report_of_message fields) (λ found. IfSome found IsReport)
unfolding report_of_message
report-known fields = elim (cases_Bool (is_skipped_message fields)) [
  | inl passed ↦ rw passed tt
  | inr other ↦ rw other (report-entry-known (trade_report fields) (trade-known fields))
]

pub orders-range : FixOrdersAreInRange
orders-range log = log_sound order_of_message RecordInRange order-known log

pub reports-range : ReportsAreInRange
reports-range log = log_sound report_of_message IsReport report-known log

pub trades-range : PairedTradesAreInRange → FixTradesAreInRange
trades-range paired log = of-reports (fix_report_records log) (reports-range log)
  where
    of-reports : (read : Result (List Report) BadPlace) → IfOk read ReportsInRange → IfOk read (λ reports. IfOk (pairing reports) TradesInRange)
    of-reports (Ok reports) are = paired reports are
    of-reports (Err bad) are = tt
