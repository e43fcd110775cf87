-- The rows of the table of digests.
use Rattle.std.specs.Prelude.{ℕ, Bool, true, false, ◌==◌, ◌&&◌, List, [], ◌∷◌, length, map, Option, All}
use Rattle.std.specs.Cmp.Lexicographic.{pointwise}
use Rattle.std.specs.Option.{option_to_list}
use Rattle.hex.specs.Hex.{encode_lower}
use Rattle.case_sqlite.specs.CaseRows.{OffenceHasPlace}
use Rattle.log_digests.specs.DigestDigits.{are_digest_digits}
use Rattle.log_digests.specs.declared.digests.LogDigests.{LogDigests}
use Rattle.digest_keeper.specs.declared.digested.DigestedCase.{DigestedCase}
use Rattle.sqlite_value.specs.Order.{Row, column}
use Rattle.sqlite_value.specs.declared.value.Value.{Value}
use Rattle.sqlite_value.specs.declared.value.Value.TheVariants.{Null, Int, Real, Text, Blob}

-- the columns of digests are the label of their case and the digits of both, 64 in lower case
abbrev pub digest_columns : List ℕ → LogDigests → Row
digest_columns label digests =
    Text label ∷ Text (encode_lower digests.orders) ∷ Text (encode_lower digests.trades) ∷ []

-- the row of digests that were found, or no row
abbrev pub rows_of_digests : List ℕ → Option LogDigests → List Row
rows_of_digests label found = map (digest_columns label) (option_to_list found)

-- a column is a text that passes a test
abbrev pub is_text_that : (List ℕ → Bool) → Value → Bool
is_text_that test (Text text) = test text
is_text_that test Null = false
is_text_that test (Int n) = false
is_text_that test (Real x) = false
is_text_that test (Blob bytes) = false

-- a column is this label
abbrev pub is_label_column : List ℕ → Value → Bool
is_label_column label value = is_text_that (λ text. pointwise ◌==◌ text label) value

-- a column is the digits of a digest
abbrev pub is_digest_column : Value → Bool
is_digest_column value = is_text_that are_digest_digits value

-- a row is that of digests with a label: it has three columns, the label and the digits of both
abbrev pub is_digest_row : List ℕ → Row → Bool
is_digest_row label row = length row == 3 && is_label_column label (column row 0)
    && is_digest_column (column row 1) && is_digest_column (column row 2)

-- rows are those of digests with a label: none, or one row of such digests
abbrev pub are_digest_rows : List ℕ → List Row → Bool
are_digest_rows label [] = true
are_digest_rows label (row ∷ []) = is_digest_row label row
are_digest_rows label (row ∷ next ∷ more) = false

-- the offence of each of these cases is at the place of a record, as that of a row is
abbrev pub HavePlaces : List DigestedCase → Type 0
HavePlaces filed = All (λ digested. OffenceHasPlace digested.case) filed
