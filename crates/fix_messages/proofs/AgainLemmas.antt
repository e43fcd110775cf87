-- Written logs say the records that they were written of.
use Rattle.std.proofs.Common.{◌≡◌, ℕ, Option, Some, List, [], ◌∷◌, ◌++◌, map, refl, ap, ◌∙◌, Result, Ok}
use Rattle.std.specs.List.{All, flat_map}
use Rattle.std.specs.Option.{option_to_list}
use Rattle.std.proofs.lemmas.List.{append-nil, append_assoc}
use Rattle.std.proofs.lemmas.List.Elements.{All-head, All-tail, All-nil, All-cons, All-weaker}
use Rattle.audit_base.specs.declared.records.OrderRecord.{OrderRecord}
use Rattle.audit_base.specs.declared.records.TradeRecord.{TradeRecord}
use Rattle.audit_base.specs.declared.terms.Side.TheVariants as side
use Rattle.fix_fields.specs.Grammar.{TagValue, bytes_of}
use Rattle.fix_framing.specs.Frames.{frame_text}
use Rattle.fix_framing.proofs.WritingLemmas.{frame_text_is_frame}
use Rattle.fix_messages.specs.declared.meanings.MessageFault.{MessageFault}
use Rattle.trade_reports.specs.declared.reports.Report.{Report}
use Rattle.fix_messages.specs.Bodies.{body_says, with_reason}
use Rattle.fix_messages.specs.OrderTables.{order_of_message}
use Rattle.fix_messages.specs.ReportTable.{report_of_message}
use Rattle.fix_messages.specs.Logs.{AreMessages, fix_order_records, read_fix_log, fix_report_records}
use Rattle.trade_reports.specs.Reports.{report_to, reports_of}
use Rattle.fix_messages.specs.Written.{IsReportInForm, IsTradeInForm, IsWritable, order_fields, fix_orders_text, report_fields, report_message, trade_message_pair, fix_trades_text}
use Rattle.fix_messages.proofs.BodyLemmas.{fields-say}
use Rattle.fix_messages.proofs.MeaningLemmas.{IsBody, order-again, order-body, report-again, report-body}
use Rattle.fix_messages.proofs.ReadingLemmas.{good-read}
use Rattle.fix_messages.proofs.SayLemmas.{say-bodies}

module _ {R : Type 0} (meaning : List TagValue → Result (Option R) MessageFault) (fields_of : R → List TagValue) where
  -- the message of a record, which means it
  pub record IsAgain (entry : R) : Type 0 where
    pub body : IsBody (fields_of entry)
    pub means : meaning (fields_of entry) ≡ Ok (Some entry)

  says-again : (entry : R) → IsAgain entry → body_says meaning (bytes_of (fields_of entry)) ≡ Ok (Some entry)
  says-again entry is = fields-say meaning (bytes_of (fields_of entry)) (fields_of entry) is.body.0 ∙ ap (λ (m : Result (Option R) MessageFault). with_reason m) is.means

  messages-again : (entries : List R) → All IsAgain entries → AreMessages (flat_map (λ entry. frame_text (bytes_of (fields_of entry))) entries) (map (λ entry. bytes_of (fields_of entry)) entries)
  messages-again [] are = refl
  messages-again (entry ∷ entries) are =
      let first = All-head IsAgain entry entries are in
      ([], frame_text (bytes_of (fields_of entry)), flat_map (λ entry. frame_text (bytes_of (fields_of entry))) entries, refl, frame_text_is_frame (bytes_of (fields_of entry)) first.body.1, refl, messages-again entries (All-tail IsAgain entry entries are))

  good-again : (entries : List R) → All IsAgain entries → map (body_says meaning) (map (λ entry. bytes_of (fields_of entry)) entries) ≡ map Ok (map (λ (entry : R). Some entry) entries)
  good-again [] are = refl
  good-again (entry ∷ entries) are =
      let this = says-again entry (All-head IsAgain entry entries are) in
      let others = good-again entries (All-tail IsAgain entry entries are) in cc

  records-again : (entries : List R) → entries ≡ flat_map option_to_list (map (λ (entry : R). Some entry) entries)
  records-again [] = refl
  records-again (entry ∷ entries) = ap (λ (l : List R). entry ∷ l) (records-again entries)

  log-again : (entries : List R) → All IsAgain entries → read_fix_log meaning (flat_map (λ entry. frame_text (bytes_of (fields_of entry))) entries) ≡ Ok entries
  log-again entries are = good-read meaning _ entries (record {
    bodies = map (λ entry. bytes_of (fields_of entry)) entries;
    messages = messages-again entries are;
    meanings = map (λ (entry : R). Some entry) entries;
    good = say-bodies meaning _ _ (good-again entries are);
    records = records-again entries;
  })

abbrev pub IsOrderAgain : OrderRecord → Type 0
IsOrderAgain entry = IsAgain order_of_message order_fields entry

order-is : (entry : OrderRecord) → IsWritable entry → IsOrderAgain entry
order-is entry is = record { body = order-body entry is.form; means = order-again entry is }

pub orders-again : (orders : List OrderRecord) → All IsWritable orders → fix_order_records (fix_orders_text orders) ≡ Ok orders
orders-again orders are = log-again order_of_message order_fields orders (All-weaker IsWritable IsOrderAgain order-is orders are)

report-is : (entry : Report) → IsReportInForm entry → IsAgain report_of_message report_fields entry
report-is entry is = record { body = report-body entry is; means = report-again entry is }

-- the messages of trades are those of their reports
messages-of : (trades : List TradeRecord) → flat_map trade_message_pair trades ≡ flat_map report_message (flat_map reports_of trades)
messages-of [] = refl
messages-of (trade ∷ trades) =
    let buyer : List ℕ = report_message (report_to side.Buy trade) in
    let seller : List ℕ = report_message (report_to side.Sell trade) in
    ap (λ (t : List ℕ). trade_message_pair trade ++ t) (messages-of trades)
    ∙ append_assoc buyer (seller ++ []) (flat_map report_message (flat_map reports_of trades))
    ∙ ap (λ (t : List ℕ). buyer ++ (t ++ flat_map report_message (flat_map reports_of trades))) (append-nil seller)

reports-in-form : (trades : List TradeRecord) → All IsTradeInForm trades → All IsReportInForm (flat_map reports_of trades)
reports-in-form [] are = All-nil IsReportInForm
reports-in-form (trade ∷ trades) are =
    let this = All-head IsTradeInForm trade trades are in
    All-cons IsReportInForm (report_to side.Buy trade) (report_to side.Sell trade ∷ flat_map reports_of trades) this.buyer
    (All-cons IsReportInForm (report_to side.Sell trade) (flat_map reports_of trades) this.seller (reports-in-form trades (All-tail IsTradeInForm trade trades are)))

pub trades-again : (trades : List TradeRecord) → All IsTradeInForm trades → fix_report_records (fix_trades_text trades) ≡ Ok (flat_map reports_of trades)
trades-again trades are =
    ap fix_report_records (messages-of trades)
    ∙ log-again report_of_message report_fields (flat_map reports_of trades) (All-weaker IsReportInForm (IsAgain report_of_message report_fields) report-is (flat_map reports_of trades) (reports-in-form trades are))
