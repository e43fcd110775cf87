-- Names: which texts are names.
use Rattle.std.specs.Prelude.{ℕ, Bool, not, ◌==◌, ◌&&◌, nat_le, Option, Some, None, List, length, if◌then◌else◌}
use Rattle.std.specs.List.{list_all}

-- a byte that a name may hold: printable, and neither the quote (34) nor the comma (44)
abbrev pub is_name_byte : ℕ → Bool
is_name_byte b = nat_le 32 b && nat_le b 126 && not (b == 34) && not (b == 44)

-- the byte of a comma, which joins the parts of a line or a word
abbrev pub is_comma : ℕ → Bool
is_comma byte = byte == 44

-- a name is 1 to 64 such bytes
abbrev pub is_name : List ℕ → Bool
is_name text = nat_le 1 (length text) && nat_le (length text) 64 && list_all is_name_byte text

-- what a text means as a name: itself, or nothing
abbrev pub name_form : List ℕ → Option (List ℕ)
name_form text = if is_name text then Some text else None
