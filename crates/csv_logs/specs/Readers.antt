-- Lines that are read one after another by one reader of `csv`: what the private
-- functions that share a reader say.
use Rattle.std.specs.Prelude.{◌≡◌, ◌==◌, ◌&&◌, ◌||◌, not, ℕ, Bool, true, false, Option, Some, List, [], ◌∷◌, ◌++◌, length}
use Rattle.std.specs.List.{list_all}
use Rattle.csv.specs.Machine.{Read, next_record, step}
use Rattle.csv.specs.Reading.{default_config, has_failed, is_flexible, reader_config, reader_state, reader_trim, source_of, Ready}
use Rattle.csv.specs.declared.parser.State.{State}
use Rattle.csv.specs.declared.parser.State.TheVariants as st
use Rattle.csv.specs.declared.reader.Reader.{Reader}
use Rattle.csv.specs.declared.reader.Trim.TheVariants as trim
use Rattle.csv_logs.specs.declared.lines.FieldState.{FieldState}
use Rattle.csv_logs.specs.declared.lines.FieldState.TheVariants as field_state
use Rattle.csv_logs.specs.Columns.{Row, has_bad_byte_or_open_quote, is_unquoted_byte, line_fields}
use Rattle.csv_logs.specs.Lines.{without_cr}

-- what a reader underneath has left, where that is known
abbrev pub RemainingBytes : Type 0 → Type 0
RemainingBytes R = R → Option (List ℕ)

-- the first record of a text, for a reader in this state
abbrev pub record_from : State → List ℕ → Option Read
record_from state text = next_record default_config state [] [] text

-- a byte of an unquoted line, or the LF that ends one
abbrev pub is_plain_byte : ℕ → Bool
is_plain_byte byte = is_unquoted_byte byte || byte == 10

-- the state of `csv`'s machine after these bytes of a line, none of which ends the line
unfoldable pub state_after_bytes : State → List ℕ → State
state_after_bytes state [] = state
state_after_bytes state (byte ∷ rest) = state_after_bytes (step default_config state byte).0 rest

-- a quote is open
abbrev pub is_quoted : State → Bool
is_quoted st.StartRecord = false
is_quoted st.StartField = false
is_quoted st.InField = false
is_quoted st.InQuoted = true
is_quoted st.AfterQuote = false
is_quoted st.InEscape = false
is_quoted st.InComment = false
is_quoted st.AfterCr = false

-- where a reader is within a line, as a state of `csv`'s machine
abbrev pub state_of : FieldState → State
state_of field_state.FieldStart = st.StartField
state_of field_state.InField = st.InField
state_of field_state.InQuotes = st.InQuoted
state_of field_state.AfterQuote = st.AfterQuote

-- a line whose fields do not depend on what follows it: it is not broken,
-- and its quotes close before its end
abbrev pub is_closed : List ℕ → Bool
is_closed line =
    not (has_bad_byte_or_open_quote line) && not (is_quoted (state_after_bytes st.StartField line))

-- The reader reads by `csv`'s defaults with no header row, records of any length.
pub record IsSetUp {R : Type 0} (reader : Reader R) : Type 0 where
  pub config : reader_config reader ≡ default_config
  pub trim : reader_trim reader ≡ trim.None
  pub any_length : is_flexible reader ≡ true
  pub ready : Ready reader
  pub sound : has_failed reader ≡ false

-- The next record of the reader is that of this text.
pub record IsReading {R : Type 0} (remaining : RemainingBytes R) (reader : Reader R)
    (text : List ℕ) : Type 0 where
  pub setup : IsSetUp reader
  pub source : List ℕ
  pub known : source_of remaining reader ≡ Some source
  pub next : record_from (reader_state reader) source ≡ record_from st.StartRecord text

-- It is that of a text that begins with this line.
pub record IsReadingLine {R : Type 0} (remaining : RemainingBytes R) (reader : Reader R)
    (line : List ℕ) : Type 0 where
  pub later : List ℕ
  pub reads : IsReading remaining reader (line ++ 10 ∷ later)

-- The reader is at a closed line that is not empty, and that is unquoted where this is true.
pub record IsAtClosedLine {R : Type 0} (remaining : RemainingBytes R) (reader : Reader R)
    (unquoted : Bool) : Type 0 where
  pub line : List ℕ
  pub later : List ℕ
  pub closed : is_closed (without_cr line) ≡ true
  pub bytes : unquoted ≡ true → list_all is_unquoted_byte (without_cr line) ≡ true
  pub full : (length (without_cr line) == 0) ≡ false
  pub reads : IsReading remaining reader (line ++ 10 ∷ later)

-- A reader that was at this line is at what follows it.
abbrev pub PassesLine : {R : Type 0} → RemainingBytes R → Reader R → Reader R → List ℕ → Type 0
PassesLine remaining old new line =
    (later : List ℕ) → IsReading remaining old (line ++ 10 ∷ later)
    → IsReading remaining new later

-- A reader that was at a closed line that is not empty gave its fields, and is at what follows it.
abbrev pub ReadsLine : {R : Type 0} → RemainingBytes R → Reader R → Reader R → Row → Type 0
ReadsLine remaining old new fields =
    (line later : List ℕ) → is_closed (without_cr line) ≡ true
    → (length (without_cr line) == 0) ≡ false → IsReading remaining old (line ++ 10 ∷ later)
    → (fields ≡ line_fields (without_cr line)) × IsReading remaining new later
