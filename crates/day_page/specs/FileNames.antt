-- The name of the page of a symbol, and the address of a link to it. The codes of `%`, `.` and `_`
-- are 37, 46 and 95.
use Rattle.std.specs.Prelude.{ℕ, Bool, true, false, not, ◌==◌, ◌||◌, ◌&&◌, ◌+◌, ◌/◌, ◌%◌, nat_lt, List, [], ◌∷◌, ◌++◌, codes, if◌then◌else◌}
use Rattle.std.specs.List.{flat_map}
use Rattle.std.specs.Char.{is_ascii_alphanumeric}

-- a `.` that is not the first byte
abbrev pub is_later_dot : Bool → ℕ → Bool
is_later_dot is_first byte = (byte == 46) && not is_first

-- the byte stands in a file name as it is: a letter, a digit, `_`, or such a `.`
abbrev pub is_file_byte : Bool → ℕ → Bool
is_file_byte is_first byte =
    is_ascii_alphanumeric byte || (byte == 95) || is_later_dot is_first byte

-- a hexadecimal digit
abbrev pub hex_digit : ℕ → ℕ
hex_digit n = if nat_lt n 10 then 48 + n else 55 + n

-- a byte of a symbol in a file name: as it is, or else as `%` and two hexadecimal digits
abbrev pub file_byte : Bool → ℕ → List ℕ
file_byte is_first byte = if is_file_byte is_first byte then byte ∷ []
    else 37 ∷ hex_digit (byte / 16) ∷ hex_digit (byte % 16) ∷ []

-- the bytes of a symbol in a file name, given whether the first of them is the first of all
abbrev pub file_bytes : Bool → List ℕ → List ℕ
file_bytes is_first [] = []
file_bytes is_first (byte ∷ rest) = file_byte is_first byte ++ file_bytes false rest

-- the name of the page of a symbol
abbrev pub file_name : List ℕ → List ℕ
file_name symbol = file_bytes true symbol ++ codes ".html"

-- a byte of a file name in the address of a link, where `%` would begin a byte in another dress
abbrev pub address_byte : ℕ → List ℕ
address_byte byte = if byte == 37 then codes "%25" else byte ∷ []

-- the address of a link to the page of a symbol
abbrev pub page_address : List ℕ → List ℕ
page_address symbol = flat_map address_byte (file_name symbol)
