-- The digits of a digest, as `sha256sum` writes them.
use Rattle.std.specs.Prelude.{ℕ, Bool, ◌||◌, ◌&&◌, ◌==◌, nat_le, List, length}
use Rattle.std.specs.Char.{is_ascii_digit}
use Rattle.std.specs.List.{list_all}

-- 0 to 9, or a to f
abbrev pub is_lower_digit : ℕ → Bool
is_lower_digit byte = is_ascii_digit byte || (nat_le 97 byte && nat_le byte 102)

-- 64 of these
abbrev pub are_digest_digits : List ℕ → Bool
are_digest_digits digits = length digits == 64 && list_all is_lower_digit digits
