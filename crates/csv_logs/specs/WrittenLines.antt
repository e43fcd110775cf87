-- What the private functions of the writers say of one line.
use Rattle.std.specs.Prelude.{◌≡◌, ◌++◌, ℕ, All, Bool, true, false, Option, Ok, List, length}
use Rattle.std.specs.List.{list_all}
use Rattle.std.specs.Io.KnownBytes.{Appends}
use Rattle.csv.specs.Writing.{default_writer, fields_written, has_written, text_written, writer_setup}
use Rattle.csv.specs.declared.writer.Writer.{Writer}
use Rattle.audit_base.specs.Names.{is_name_byte}
use Rattle.audit_base.specs.declared.records.OrderRecord.{OrderRecord}
use Rattle.audit_base.specs.declared.records.OrderRecord.TheVariants as record_of
use Rattle.audit_base.specs.declared.terms.Life.{Life}
use Rattle.csv_logs.specs.Columns.{RowMeaning, Row}
use Rattle.csv_logs.specs.OrderLines.{order_of_row}
use Rattle.audit_base.specs.Histories.{HasMarketPrice}
use Rattle.csv_logs.specs.Written.{csv_line_text, log_text, order_row}
use Rattle.csv_logs.specs.declared.log_text.ConvertedLog.{ConvertedLog}
use Rattle.csv_logs.specs.declared.log_text.LogText.{LogText}
use Rattle.csv_logs.specs.declared.orders.LineHead.{LineHead}
use Rattle.csv_logs.specs.declared.orders.LineTerms.{LineTerms}

-- the records of an order's parts
abbrev pub csv_new_order : LineHead → LineTerms → Life → OrderRecord
csv_new_order head terms life =
    record_of.New head.key head.time head.symbol terms.side terms.quantity terms.price life

abbrev pub csv_cancel_order : LineHead → List ℕ → OrderRecord
csv_cancel_order head target = record_of.Cancel head.key head.time head.symbol target

abbrev pub csv_replace_order : LineHead → LineTerms → List ℕ → OrderRecord
csv_replace_order head terms target =
    record_of.Replace head.key head.time head.symbol target terms.side terms.quantity terms.price

-- every byte of these fields may be in a name: none is a comma, a quote or the end of a line, so
-- that the fields are written unquoted
abbrev pub have_name_bytes : Row → Bool
have_name_bytes fields = list_all (list_all is_name_byte) fields

-- The fields of a record's line are nine, hold no byte that ends a field, and mean the record
-- if it can be read at all.
pub record IsLineOf {R : Type 0} (meaning : RowMeaning R) (sound : R → Type 0) (entry : R)
    (fields : Row) : Type 0 where
  pub nine : length fields ≡ 9
  pub unquoted : have_name_bytes fields ≡ true
  pub again : sound entry → meaning fields ≡ Ok entry

-- A writer by `csv`'s defaults is at the start of a line.
pub record IsAtLine {W : Type 0} (writer : Writer W) : Type 0 where
  pub fields : fields_written writer ≡ 0
  pub bytes : has_written writer ≡ false
  pub setup : writer_setup writer ≡ default_writer

-- the line of these fields is appended to what the writer has written
abbrev pub WritesRow : {W : Type 0} → (W → Option (List ℕ)) → Writer W → Writer W → Row
    → Type 0
WritesRow contents old new fields =
    Appends (text_written contents old) (text_written contents new) (csv_line_text fields)

-- the fields of an order's line are nine, need no quotes, and mean the order
-- if it has the price of its life
abbrev pub IsOrderRow : OrderRecord → Type 0
IsOrderRow order = IsLineOf order_of_row HasMarketPrice order (order_row order)

-- The text that was written is the header and the lines of these records,
-- each of which means its record.
pub record IsLogText {R : Type 0} (names : Row) (meaning : RowMeaning R) (sound : R → Type 0)
    (fields : R → Row) (text : LogText R) (entries : List R) : Type 0 where
  pub at_line : IsAtLine text.writer
  pub written : text.writer.wtr.inner.items ++ text.writer.wtr.buf
      ≡ log_text names fields entries
  pub nine : length names ≡ 9
  pub unquoted : have_name_bytes names ≡ true
  pub lines : All (λ entry. IsLineOf meaning sound entry (fields entry)) entries

-- The log has been handed these records, and their lines are its text.
pub record IsConvertedLog {R : Type 0} (names : Row) (meaning : RowMeaning R)
    (sound : R → Type 0) (fields : R → Row) (log : ConvertedLog R) (entries : List R)
    : Type 0 where
  pub count : log.count ≡ length entries
  pub text : IsLogText names meaning sound fields log.text entries
