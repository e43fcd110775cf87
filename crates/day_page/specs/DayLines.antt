-- The text of a day by its lines, and a line by its fields. The code of LF is 10.
use Rattle.std.specs.Prelude.{ℕ, zero, suc, Bool, ◌==◌, List}
use Rattle.std.specs.Cmp.Lexicographic.{pointwise}
use Rattle.std.specs.List.{after_first, before_first, slice_split}
use Rattle.audit_base.specs.Names.{is_comma}

-- LF ends a line
abbrev pub is_newline : ℕ → Bool
is_newline byte = byte == 10

-- the lines of a text, which LF parts; behind the last LF is a line with nothing in it
unfoldable pub text_lines : List ℕ → List (List ℕ)
text_lines text = slice_split is_newline text

-- the first of them, and what is behind it
unfoldable pub first_line : List ℕ → List ℕ
first_line text = before_first is_newline text

unfoldable pub behind_line : List ℕ → List ℕ
behind_line text = after_first is_newline text

-- what is behind so many commas of a line; nothing where it has fewer
unfoldable pub behind_commas : ℕ → List ℕ → List ℕ
behind_commas zero line = line
behind_commas (suc n) line = after_first is_comma (behind_commas n line)

-- the field of a line behind so many commas, up to the next comma
unfoldable pub field_at : ℕ → List ℕ → List ℕ
field_at n line = before_first is_comma (behind_commas n line)

-- a field is this word
abbrev pub is_word : List ℕ → List ℕ → Bool
is_word field word = pointwise ◌==◌ field word
