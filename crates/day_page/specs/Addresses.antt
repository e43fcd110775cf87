-- How a browser reads the address of a link: each `%` with two hexadecimal digits behind it is one
-- byte (URL Living Standard, percent-decode). The code of `%` is 37.
use Rattle.std.specs.Prelude.{ℕ, zero, suc, Bool, ◌==◌, ◌&&◌, ◌+◌, ◌*◌, List, [], ◌∷◌, get_or, if◌then◌else◌}
use Rattle.std.specs.Char.{digit_value, is_ascii_hexdigit}

-- the byte and what follows it begin with `%` and two hexadecimal digits
abbrev pub begins_escape : ℕ → List ℕ → Bool
begins_escape byte rest =
    (byte == 37) && is_ascii_hexdigit (get_or rest 0 0) && is_ascii_hexdigit (get_or rest 1 0)

-- the byte of the two digits that a text begins with
abbrev pub byte_of_digits : List ℕ → ℕ
byte_of_digits text = digit_value (get_or text 0 0) * 16 + digit_value (get_or text 1 0)

-- a text behind so many of its bytes, with its escapes undone
abbrev pub undone_behind : ℕ → List ℕ → List ℕ
undone_behind passed [] = []
undone_behind zero (byte ∷ rest) =
    if begins_escape byte rest then byte_of_digits rest ∷ undone_behind 2 rest
    else byte ∷ undone_behind 0 rest
undone_behind (suc passed) (byte ∷ rest) = undone_behind passed rest

-- a text with its escapes undone, once
abbrev pub without_escapes : List ℕ → List ℕ
without_escapes text = undone_behind 0 text
