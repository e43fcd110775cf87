-- What a log has, in its form: the kind of each message or record, and of each record that is read
-- its symbol and its time; or its first bad place, which is that of an audit.
use Rattle.std.specs.Prelude.{ℕ, List, Result, Ok, Err, map}
use Rattle.audit_base.specs.declared.faults.BadPlace.{BadPlace}
use Rattle.audit_base.specs.declared.terms.Form.{Form}
use Rattle.audit_base.specs.declared.terms.Form.TheVariants.{Csv, Fix}
use Rattle.audit_base.specs.Histories.{symbol_of, time_of}
use Rattle.audit_base.specs.Moments.{Moment}
use Rattle.csv_logs.specs.Logs.{csv_order_records, csv_trade_records}
use Rattle.fix_messages.specs.Logs.{fix_order_records, fix_report_records}
use Rattle.fix_messages.specs.OrderTables.{order_of_message}
use Rattle.fix_messages.specs.ReportTable.{report_of_message}
use Rattle.log_contents.specs.Kinds.{kind_of_order, kind_of_trade, kinds_of_messages}
use Rattle.log_contents.specs.Summaries.{LogItems, log_items}

-- a CSV log that says this has a kind for each record
abbrev pub csv_items : {R : Type 0} → (R → List ℕ) → (R → Moment) → (R → List ℕ)
    → Result (List R) BadPlace → Result LogItems BadPlace
csv_items symbol_of time_of kind_of (Ok entries) =
    Ok (log_items symbol_of time_of (map kind_of entries) entries)
csv_items symbol_of time_of kind_of (Err bad) = Err bad

-- a FIX log that says this has a kind for each message; its kinds are read from the same messages,
-- so they are there exactly where its records are
abbrev pub fix_items : {R : Type 0} → (R → List ℕ) → (R → Moment) → Result (List R) BadPlace
    → Result (List (List ℕ)) BadPlace → Result LogItems BadPlace
fix_items symbol_of time_of (Ok entries) (Ok kinds) = Ok (log_items symbol_of time_of kinds entries)
fix_items symbol_of time_of (Ok entries) (Err bad) = Err bad
fix_items symbol_of time_of (Err bad) kinds = Err bad

-- what an order log has
abbrev pub order_log_items : Form → List ℕ → Result LogItems BadPlace
order_log_items Csv bytes = csv_items symbol_of time_of kind_of_order (csv_order_records bytes)
order_log_items Fix bytes =
    fix_items symbol_of time_of (fix_order_records bytes) (kinds_of_messages order_of_message bytes)

-- what a trade log has; the reports of a FIX log need not pair
abbrev pub trade_log_items : Form → List ℕ → Result LogItems BadPlace
trade_log_items Csv bytes =
    csv_items (λ trade. trade.symbol) (λ trade. trade.time) kind_of_trade (csv_trade_records bytes)
trade_log_items Fix bytes =
    fix_items (λ report. report.symbol) (λ report. report.time) (fix_report_records bytes)
    (kinds_of_messages report_of_message bytes)
