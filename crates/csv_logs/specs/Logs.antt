-- What a CSV log says: its records, or its first bad line. The definitions take the names of a
-- log's columns and what nine fields mean, so that they serve order logs and trade logs.
use Rattle.std.specs.Prelude.{◌≡◌, ◌⊎◌, ◌↔◌, ℕ, Bool, not, ◌+◌, ◌==◌, ◌&&◌, IsTrue, Result, Ok, Err, List, [], ◌∷◌, ◌++◌, map, length, false, if◌then◌else◌}
use Rattle.std.specs.Cmp.Lexicographic.{pointwise}
use Rattle.audit_base.specs.declared.faults.Reason.{Reason}
use Rattle.audit_base.specs.declared.faults.Reason.TheVariants as reason
use Rattle.audit_base.specs.declared.faults.BadPlace.{BadPlace}
use Rattle.audit_base.specs.declared.records.OrderRecord.{OrderRecord}
use Rattle.audit_base.specs.declared.records.TradeRecord.{TradeRecord}
use Rattle.csv_logs.specs.Columns.{RowMeaning, Row, has_bad_byte_or_open_quote, line_fields}
use Rattle.csv_logs.specs.Lines.{Line, nonempty_lines}
use Rattle.audit_base.specs.Columns.{order_columns, trade_columns}
use Rattle.csv_logs.specs.OrderLines.{order_of_row}
use Rattle.csv_logs.specs.TradeLines.{trade_of_row}

-- nine fields mean a record, or the first column that is not in its form
abbrev pub meaning_of_fields : {R : Type 0} → RowMeaning R → Row → Result R Reason
meaning_of_fields meaning fields = if length fields == 9 then meaning fields else Err reason.Columns

-- a line that is not empty is a record, or the first test that it fails: its bytes and quotes,
-- its nine fields, each column in turn
unfoldable pub line_meaning : {R : Type 0} → RowMeaning R → List ℕ → Result R Reason
line_meaning meaning line =
    if has_bad_byte_or_open_quote line then Err reason.Break
    else meaning_of_fields meaning (line_fields line)

-- this is the symbol of the record that was read, if one was
abbrev pub IsSymbolOf : {R : Type 0} → (R → List ℕ) → Result R Reason → List ℕ → Type 0
IsSymbolOf symbol_of reading symbol =
    (entry : _) → reading ≡ Ok entry → symbol_of entry ≡ symbol

-- these are the same fields, byte for byte
abbrev pub same_fields : Row → Row → Bool
same_fields = pointwise (pointwise ◌==◌)

-- a header's fields are the nine names
unfoldable pub is_header : Row → List ℕ → Bool
is_header names line = not (has_bad_byte_or_open_quote line) && same_fields (line_fields line) names

-- what a log says: its records, or its first bad line
abbrev pub LogResult : Type 0 → Type 0
LogResult R = Result (List R) BadPlace

-- one record before others
abbrev pub with_record_of_line : {R : Type 0} → R → LogResult R → LogResult R
with_record_of_line entry (Ok entries) = Ok (entry ∷ entries)
with_record_of_line entry (Err bad) = Err bad

-- a line with `before` records before it, and what the lines after it say
abbrev pub after_line : {R : Type 0} → ℕ → ℕ → Result R Reason → LogResult R → LogResult R
after_line before start (Ok entry) later = with_record_of_line entry later
after_line before start (Err why) later =
    Err (record { place = before + 1; offset = start; reason = why })

-- the records of these lines, or the first of them that is bad
abbrev pub read_entries : {R : Type 0} → RowMeaning R → ℕ → List Line → LogResult R
read_entries meaning before [] = Ok []
read_entries meaning before (line ∷ lines) =
    after_line before line.start (line_meaning meaning line.text)
    (read_entries meaning (before + 1) lines)

-- the header, and the records of the lines after it; `size` is the log's length
abbrev pub read_lines : {R : Type 0} → Row → RowMeaning R → ℕ → List Line → LogResult R
read_lines names meaning size [] =
    Err (record { place = 1; offset = size; reason = reason.Header })
read_lines names meaning size (header ∷ lines) =
    if is_header names header.text then read_entries meaning 0 lines
    else Err (record { place = 1; offset = header.start; reason = reason.Header })

-- what a log says: its records, or its first bad place
unfoldable pub read_csv_log : {R : Type 0} → Row → RowMeaning R → List ℕ → LogResult R
read_csv_log names meaning log = read_lines names meaning (length log) (nonempty_lines log)

-- what a CSV order log says: its records, or its first bad place
abbrev pub csv_order_records : List ℕ → Result (List OrderRecord) BadPlace
csv_order_records log = read_csv_log order_columns order_of_row log

-- what a CSV trade log says: its trades, or its first bad place
abbrev pub csv_trade_records : List ℕ → Result (List TradeRecord) BadPlace
csv_trade_records log = read_csv_log trade_columns trade_of_row log

-- The log is good with these records: its first line that is not empty is the header, and each
-- further one is a record.
pub record IsGoodCsvLog {R : Type 0} (names : Row) (meaning : RowMeaning R) (log : List ℕ)
    (entries : List R) : Type 0 where
  pub header : Line
  pub lines : List Line
  pub cut : nonempty_lines log ≡ header ∷ lines
  pub named : IsTrue (is_header names header.text)
  pub records : map (λ line. line_meaning meaning line.text) lines ≡ map Ok entries

-- Every line of the log is empty: the header is missing at its end.
pub record LacksHeader (log : List ℕ) (bad : BadPlace) : Type 0 where
  pub empty : nonempty_lines log ≡ []
  pub place : bad ≡ record { place = 1; offset = length log; reason = reason.Header }

-- The first line that is not empty is no header.
pub record HasBadHeader (names : Row) (log : List ℕ) (bad : BadPlace) : Type 0 where
  pub header : Line
  pub lines : List Line
  pub cut : nonempty_lines log ≡ header ∷ lines
  pub unnamed : is_header names header.text ≡ false
  pub place : bad ≡ record { place = 1; offset = header.start; reason = reason.Header }

-- After the header and lines that are records, a line fails a test: its place is one more than the
-- number of those records.
pub record HasBadLine {R : Type 0} (names : Row) (meaning : RowMeaning R) (log : List ℕ)
    (bad : BadPlace) : Type 0 where
  pub header : Line
  pub good : List Line
  pub line : Line
  pub after : List Line
  pub entries : List R
  pub why : Reason
  pub cut : nonempty_lines log ≡ header ∷ (good ++ line ∷ after)
  pub named : IsTrue (is_header names header.text)
  pub records : map (λ line. line_meaning meaning line.text) good ≡ map Ok entries
  pub fails : line_meaning meaning line.text ≡ Err why
  pub place : bad ≡ record { place = length entries + 1; offset = line.start; reason = why }

-- the log is bad there
abbrev pub IsBadCsvLog : {R : Type 0} → Row → RowMeaning R → List ℕ → BadPlace → Type 0
IsBadCsvLog names meaning log bad =
    LacksHeader log bad ⊎ (HasBadHeader names log bad ⊎ HasBadLine names meaning log bad)

-- A log is read in one way: it is good with one list of records or bad at one place,
-- and never both.
pub record IsOnlyCsvReading {R : Type 0} (names : Row) (meaning : RowMeaning R) (log : List ℕ)
    (reading : LogResult R) : Type 0 where
  pub good : (entries : List R) → IsGoodCsvLog names meaning log entries ↔ (reading ≡ Ok entries)
  pub bad : (place : BadPlace) → IsBadCsvLog names meaning log place ↔ (reading ≡ Err place)
