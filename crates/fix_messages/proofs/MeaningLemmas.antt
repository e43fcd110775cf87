-- What a record is written as means that record.
use Rattle.std.proofs.Common.{◌≡◌, ℕ, ◌≤◌, ◌^◌, true, Some, None, List, length, refl, Ok, arith}
use Rattle.std.specs.Prelude.{decimal, nat_le, nat_lt}
use Rattle.std.proofs.lemmas.Bool.{and_parts, leb-true}
use Rattle.audit_base.specs.Moments.{Moment}
use Rattle.audit_base.specs.Names.{is_name}
use Rattle.audit_base.specs.Numbers.{AreInRange, price_text}
use Rattle.audit_base.specs.Stamps.{stamp_form, stamp_text}
use Rattle.audit_base.specs.declared.names.Key.{Key}
use Rattle.audit_base.specs.declared.records.OrderRecord.{OrderRecord}
use Rattle.audit_base.specs.declared.records.OrderRecord.TheVariants as record_of
use Rattle.audit_base.specs.declared.terms.Life.{Life}
use Rattle.audit_base.specs.declared.terms.Life.TheVariants as life
use Rattle.audit_base.specs.declared.terms.Side.{Side}
use Rattle.audit_base.specs.declared.terms.Side.TheVariants as side
use Rattle.audit_base.proofs.FieldTextLemmas.{price_is_name, quantity_is_name, stamp_is_name}
use Rattle.audit_base.proofs.NumberLemmas.{price_again, quantity_again}
use Rattle.audit_base.proofs.StampLemmas.{stamp_again}
use Rattle.fix_fields.specs.Grammar.{Fields, TagValue, begins_with_type, bytes_of}
use Rattle.fix_fields.proofs.LawLemmas.{Fields-ordinary}
use Rattle.trade_reports.specs.declared.reports.Report.{Report}
use Rattle.fix_messages.specs.OrderTables.{message_cancel, message_new_order, order_of_message, message_replacement}
use Rattle.fix_messages.specs.ReportTable.{report_of_message, trade_report}
use Rattle.fix_messages.specs.Rows.{message_head, message_side_form}
use Rattle.audit_base.specs.Histories.{HasMarketPrice}
use Rattle.fix_messages.specs.Written.{IsHead, IsOrderInForm, IsReportInForm, IsWritable, order_fields, report_fields, message_side_text}
use Rattle.fix_messages.proofs.WrittenLemmas.{AreWritten, length-written, written, written-ordinary}

side-again : (s : Side) → message_side_form (message_side_text s) ≡ Some s
side-again side.Buy = refl
side-again side.Sell = refl

side-name : (s : Side) → is_name (message_side_text s) ≡ true
side-name side.Buy = refl
side-name side.Sell = refl

quantity-name : (quantity price : ℕ) → AreInRange quantity price → is_name (decimal quantity) ≡ true
quantity-name quantity price are = quantity_is_name quantity are.sized.most

price-name : (quantity price : ℕ) → AreInRange quantity price → is_name (price_text price) ≡ true
price-name quantity price are = price_is_name price (omega (arith, are.priced))

time-again : (key : Key) (time : Moment) (symbol : List ℕ) → IsHead key time symbol → stamp_form (stamp_text time) ≡ Some time
time-again key time symbol is = stamp_again time is.second_range is.nano_range

new-again : (key : Key) (time : Moment) (symbol : List ℕ) (s : Side) (quantity price : ℕ) (l : Life) → IsHead key time symbol → AreInRange quantity price
    → HasMarketPrice (record_of.New key time symbol s quantity price l) → order_of_message (order_fields (record_of.New key time symbol s quantity price l)) ≡ Ok (Some (record_of.New key time symbol s quantity price l))
unfolding order_of_message message_head message_new_order
new-again key time symbol s quantity price life.Rests head terms priced =
    rw (head.firm_form, head.id_form, time-again key time symbol head, head.symbol_form, side-again s, quantity_again quantity terms.sized, price_again price terms.priced) refl
new-again key time symbol s quantity price life.Immediate head terms priced =
    rw (head.firm_form, head.id_form, time-again key time symbol head, head.symbol_form, side-again s, quantity_again quantity terms.sized, price_again price terms.priced) refl
new-again key time symbol s quantity price life.Market head terms priced =
    rw (head.firm_form, head.id_form, time-again key time symbol head, head.symbol_form, side-again s, quantity_again quantity terms.sized, priced refl) refl

cancel-again : (key : Key) (time : Moment) (symbol target : List ℕ) → IsHead key time symbol → is_name target ≡ true
    → order_of_message (order_fields (record_of.Cancel key time symbol target)) ≡ Ok (Some (record_of.Cancel key time symbol target))
unfolding order_of_message message_head message_cancel
cancel-again key time symbol target head named =
    rw (head.firm_form, head.id_form, time-again key time symbol head, head.symbol_form, named) refl

replace-again : (key : Key) (time : Moment) (symbol target : List ℕ) (s : Side) (quantity price : ℕ) → IsHead key time symbol → is_name target ≡ true → AreInRange quantity price
    → order_of_message (order_fields (record_of.Replace key time symbol target s quantity price)) ≡ Ok (Some (record_of.Replace key time symbol target s quantity price))
unfolding order_of_message message_head message_replacement
replace-again key time symbol target s quantity price head named terms =
    rw (head.firm_form, head.id_form, time-again key time symbol head, head.symbol_form, named, side-again s, quantity_again quantity terms.sized, price_again price terms.priced) refl

-- the fields of an order mean the order
pub order-again : (entry : OrderRecord) → IsWritable entry → order_of_message (order_fields entry) ≡ Ok (Some entry)
order-again (record_of.New key time symbol s quantity price l) is = new-again key time symbol s quantity price l is.form.0 is.form.1 is.priced
order-again (record_of.Cancel key time symbol target) is = cancel-again key time symbol target is.form.0 is.form.1
order-again (record_of.Replace key time symbol target s quantity price) is = replace-again key time symbol target s quantity price is.form.0 is.form.1 is.form.2

-- the fields of a report mean the report
pub report-again : (entry : Report) → IsReportInForm entry → report_of_message (report_fields entry) ≡ Ok (Some entry)
unfolding report_of_message message_head trade_report
report-again entry is =
    rw (is.trade_form, is.head.firm_form, is.head.id_form, time-again entry.key entry.time entry.symbol is.head, is.head.symbol_form, side-again entry.side, quantity_again entry.quantity is.terms.sized, price_again entry.price is.terms.priced) refl

-- The fields that are written are in their forms, and few.

abbrev many : List TagValue → Type 0
many fields = AreWritten None fields × (length fields ≤ 13) × (begins_with_type fields ≡ true)

new-written : (key : Key) (time : Moment) (symbol : List ℕ) (s : Side) (quantity price : ℕ) (l : Life) → IsHead key time symbol → AreInRange quantity price
    → many (order_fields (record_of.New key time symbol s quantity price l))
new-written key time symbol s quantity price life.Rests head terms = (
  (
    written _ 35 _ refl refl refl,
    (
      written _ 49 _ refl head.firm_form refl,
      (
        written _ 56 _ refl refl refl,
        (
          written _ 11 _ refl head.id_form refl,
          (
            written _ 60 _ refl (stamp_is_name time) refl,
            (
              written _ 55 _ refl head.symbol_form refl,
              (
                written _ 54 _ refl (side-name s) refl,
                (
                  written _ 38 _ refl (quantity-name quantity price terms) refl,
                  (
                    written _ 40 _ refl refl refl,
                    (written _ 44 _ refl (price-name quantity price terms) refl, tt),
                  ),
                ),
              ),
            ),
          ),
        ),
      ),
    ),
  ),
  omega arith,
  refl,
)
new-written key time symbol s quantity price life.Immediate head terms = (
  (
    written _ 35 _ refl refl refl,
    (
      written _ 49 _ refl head.firm_form refl,
      (
        written _ 56 _ refl refl refl,
        (
          written _ 11 _ refl head.id_form refl,
          (
            written _ 60 _ refl (stamp_is_name time) refl,
            (
              written _ 55 _ refl head.symbol_form refl,
              (
                written _ 54 _ refl (side-name s) refl,
                (
                  written _ 38 _ refl (quantity-name quantity price terms) refl,
                  (
                    written _ 40 _ refl refl refl,
                    (
                      written _ 44 _ refl (price-name quantity price terms) refl,
                      (written _ 59 _ refl refl refl, tt),
                    ),
                  ),
                ),
              ),
            ),
          ),
        ),
      ),
    ),
  ),
  omega arith,
  refl,
)
new-written key time symbol s quantity price life.Market head terms = (
  (
    written _ 35 _ refl refl refl,
    (
      written _ 49 _ refl head.firm_form refl,
      (
        written _ 56 _ refl refl refl,
        (
          written _ 11 _ refl head.id_form refl,
          (
            written _ 60 _ refl (stamp_is_name time) refl,
            (
              written _ 55 _ refl head.symbol_form refl,
              (
                written _ 54 _ refl (side-name s) refl,
                (
                  written _ 38 _ refl (quantity-name quantity price terms) refl,
                  (written _ 40 _ refl refl refl, tt),
                ),
              ),
            ),
          ),
        ),
      ),
    ),
  ),
  omega arith,
  refl,
)

cancel-written : (key : Key) (time : Moment) (symbol target : List ℕ) → IsHead key time symbol → is_name target ≡ true → many (order_fields (record_of.Cancel key time symbol target))
cancel-written key time symbol target head named = (
  (
    written _ 35 _ refl refl refl,
    (
      written _ 49 _ refl head.firm_form refl,
      (
        written _ 56 _ refl refl refl,
        (
          written _ 11 _ refl head.id_form refl,
          (
            written _ 60 _ refl (stamp_is_name time) refl,
            (
              written _ 55 _ refl head.symbol_form refl,
              (written _ 41 _ refl named refl, tt),
            ),
          ),
        ),
      ),
    ),
  ),
  omega arith,
  refl,
)

replace-written : (key : Key) (time : Moment) (symbol target : List ℕ) (s : Side) (quantity price : ℕ) → IsHead key time symbol → is_name target ≡ true → AreInRange quantity price
    → many (order_fields (record_of.Replace key time symbol target s quantity price))
replace-written key time symbol target s quantity price head named terms = (
  (
    written _ 35 _ refl refl refl,
    (
      written _ 49 _ refl head.firm_form refl,
      (
        written _ 56 _ refl refl refl,
        (
          written _ 11 _ refl head.id_form refl,
          (
            written _ 60 _ refl (stamp_is_name time) refl,
            (
              written _ 55 _ refl head.symbol_form refl,
              (
                written _ 41 _ refl named refl,
                (
                  written _ 54 _ refl (side-name s) refl,
                  (
                    written _ 38 _ refl (quantity-name quantity price terms) refl,
                    (
                      written _ 40 _ refl refl refl,
                      (written _ 44 _ refl (price-name quantity price terms) refl, tt),
                    ),
                  ),
                ),
              ),
            ),
          ),
        ),
      ),
    ),
  ),
  omega arith,
  refl,
)

order-written : (entry : OrderRecord) → IsOrderInForm entry → many (order_fields entry)
order-written (record_of.New key time symbol s quantity price l) is = new-written key time symbol s quantity price l is.0 is.1
order-written (record_of.Cancel key time symbol target) is = cancel-written key time symbol target is.0 is.1
order-written (record_of.Replace key time symbol target s quantity price) is = replace-written key time symbol target s quantity price is.0 is.1 is.2

report-written : (entry : Report) → IsReportInForm entry → many (report_fields entry)
report-written entry is = (
  (
    written _ 35 _ refl refl refl,
    (
      written _ 49 _ refl refl refl,
      (
        written _ 56 _ refl is.head.firm_form refl,
        (
          written _ 11 _ refl is.head.id_form refl,
          (
            written _ 150 _ refl refl refl,
            (
              written _ 527 _ refl is.trade_form refl,
              (
                written _ 60 _ refl (stamp_is_name entry.time) refl,
                (
                  written _ 55 _ refl is.head.symbol_form refl,
                  (
                    written _ 54 _ refl (side-name entry.side) refl,
                    (
                      written _ 32 _ refl (quantity-name entry.quantity entry.price is.terms) refl,
                      (written _ 31 _ refl (price-name entry.quantity entry.price is.terms) refl, tt),
                    ),
                  ),
                ),
              ),
            ),
          ),
        ),
      ),
    ),
  ),
  omega arith,
  refl,
)

-- So the body that is written has these fields, and is within the size of a body.
abbrev pub IsBody : List TagValue → Type 0
IsBody fields = Fields (bytes_of fields) fields × (length (bytes_of fields) ≤ 1048576)

many-body : (fields : List TagValue) → many fields → IsBody fields
many-body fields are =
    let size = length-written None fields are.0 in
    let few = are.1 in
    (Fields-ordinary fields (written-ordinary None fields are.0) are.2, omega (arith, size, few))

pub order-body : (entry : OrderRecord) → IsOrderInForm entry → IsBody (order_fields entry)
order-body entry is = many-body (order_fields entry) (order-written entry is)

pub report-body : (entry : Report) → IsReportInForm entry → IsBody (report_fields entry)
report-body entry is = many-body (report_fields entry) (report-written entry is)
