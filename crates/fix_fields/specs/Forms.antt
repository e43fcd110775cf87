-- The forms of the two numbers that a body is read by: a tag, and the value of a length field.
use Rattle.std.specs.Prelude.{ℕ, ◌==◌, Option, None, List, slice_index, if◌then◌else◌}
use Rattle.audit_base.specs.Digits.{digits_form}

-- what the value of a length field means: 1 to 7 digits
abbrev pub length_form : List ℕ → Option ℕ
length_form text = digits_form 7 text

-- what the text before a `=` means as a tag: 1 to 9 digits, the first of them not `0` (48)
abbrev pub tag_form : List ℕ → Option ℕ
tag_form text = if slice_index text 0 == 48 then None else digits_form 9 text
