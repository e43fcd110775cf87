-- The fields of a line of CSV, and how a column is read. The code of `"` is 34.
use Rattle.std.specs.Prelude.{ℕ, Bool, IsTrue, not, ◌+◌, ◌-◌, ◌%◌, ◌==◌, ◌||◌, ◌&&◌, nat_le, Option, Some, None, option_map, unwrap_or, Result, Ok, Err, List, [], ◌∷◌, ◌++◌, count_by, if◌then◌else◌}
use Rattle.std.specs.List.{list_all}
use Rattle.csv.specs.Machine.{Read, next_record}
use Rattle.csv.specs.Reading.{default_config, strip_bom}
use Rattle.csv.specs.Records.{field_at}
use Rattle.csv.specs.declared.parser.State.TheVariants as st
use Rattle.audit_base.specs.declared.faults.Reason.{Reason}
use Rattle.audit_base.specs.declared.faults.Reason.TheVariants as reason
use Rattle.audit_base.specs.declared.terms.Side.{Side}
use Rattle.audit_base.specs.declared.terms.Side.TheVariants as side
use Rattle.audit_base.specs.declared.names.Key.{Key}
use Rattle.audit_base.specs.Moments.{Moment}
use Rattle.audit_base.specs.Names.{is_name, name_form}
use Rattle.audit_base.specs.Numbers.{price_form, quantity_form}
use Rattle.audit_base.specs.Stamps.{stamp_form}

-- the fields of a line, from left to right
abbrev pub Row : Type 0
Row = List (List ℕ)

-- what nine fields mean: a record, or why they mean none
abbrev pub RowMeaning : Type 0 → Type 0
RowMeaning R = Row → Result R Reason

-- the first record that `csv` reads, by its defaults, from a line and one LF
abbrev pub csv_read_of : List ℕ → Option Read
csv_read_of line =
    next_record default_config st.StartRecord [] [] (strip_bom (line ++ 10 ∷ []))

-- the fields of a line: those of that record
unfoldable pub line_fields : List ℕ → Row
line_fields line = unwrap_or (option_map (λ read. read.0) (csv_read_of line)) []

-- a printable ASCII byte: from space (0x20) to `~` (0x7E)
abbrev pub is_printable : ℕ → Bool
is_printable byte = nat_le 0x20 byte && nat_le byte 0x7E

-- the byte is a double quote
abbrev pub is_quote : ℕ → Bool
is_quote byte = byte == 34

-- a printable byte that is no quote: a line of such bytes is unquoted
abbrev pub is_unquoted_byte : ℕ → Bool
is_unquoted_byte byte = is_printable byte && not (is_quote byte)

-- a byte that no line may hold, or an odd number of quotes
abbrev pub has_bad_byte_or_open_quote : List ℕ → Bool
has_bad_byte_or_open_quote line =
    not (list_all is_printable line) || (count_by is_quote line % 2 == 1)

-- the text of a column, from 1 on
abbrev pub column_text : ℕ → Row → List ℕ
column_text number fields = unwrap_or (field_at fields (number - 1)) []

-- a column's value, or that it is the column which is not in its form
abbrev pub in_column : {T : Type 0} → ℕ → Option T → Result T Reason
in_column number None = Err (reason.Column number)
in_column number (Some value) = Ok value

-- what is read from a column is read before the columns that follow
infixl 10 ◌>>=◌
abbrev pub ◌>>=◌ : {S T : Type 0} → Result S Reason → (S → Result T Reason) → Result T Reason
Ok value >>= next = next value
Err why >>= next = Err why

-- whether there is a value, and else why not
abbrev pub test_result : {T : Type 0} → Result T Reason → Result (Unit {0}) Reason
test_result (Ok value) = Ok tt
test_result (Err why) = Err why

-- the form of a column that holds nothing
abbrev pub empty_form : List ℕ → Option (Unit {0})
empty_form [] = Some tt
empty_form (byte ∷ rest) = None

-- `B` for a bid, `S` for an ask
abbrev pub row_side_form : List ℕ → Option Side
row_side_form [] = None
row_side_form (byte ∷ []) =
    if byte == 66 then Some side.Buy else if byte == 83 then Some side.Sell else None
row_side_form (byte ∷ next ∷ rest) = None

-- the values of a column
abbrev pub row_name : ℕ → Row → Result (List ℕ) Reason
row_name number fields = in_column number (name_form (column_text number fields))

abbrev pub row_stamp : ℕ → Row → Result Moment Reason
row_stamp number fields = in_column number (stamp_form (column_text number fields))

abbrev pub row_side : ℕ → Row → Result Side Reason
row_side number fields = in_column number (row_side_form (column_text number fields))

abbrev pub row_quantity : ℕ → Row → Result ℕ Reason
row_quantity number fields = in_column number (quantity_form (column_text number fields))

abbrev pub row_price : ℕ → Row → Result ℕ Reason
row_price number fields = in_column number (price_form (column_text number fields))

-- a column that must be empty
abbrev pub row_blank : ℕ → Row → Result (Unit {0}) Reason
row_blank number fields = in_column number (empty_form (column_text number fields))

-- a firm, and in the next column its id
abbrev pub row_key : ℕ → Row → Result Key Reason
row_key number fields = do
  firm ← row_name number fields
  id ← row_name (number + 1) fields
  Ok (record { firm = firm; id = id })

-- a column holds a name
abbrev pub HasName : ℕ → Row → Type 0
HasName number fields = IsTrue (is_name (column_text number fields))

-- a column holds a firm, and the next one an id
abbrev pub HasKey : ℕ → Row → Type 0
HasKey number fields = HasName number fields × HasName (number + 1) fields

-- the key that two columns write, where they hold names
abbrev pub written_key : ℕ → Row → Key
written_key number fields =
    record { firm = column_text number fields; id = column_text (number + 1) fields }
