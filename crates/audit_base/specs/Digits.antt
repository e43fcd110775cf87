-- Runs of decimal digits: the numbers that they write, and the digits that write a number.
use Rattle.std.specs.Prelude.{ℕ, Bool, zero, suc, ◌+◌, ◌/◌, ◌%◌, ◌==◌, ◌&&◌, nat_le, Option, Some, None, List, [], ◌∷◌, ◌++◌, length, if◌then◌else◌}
use Rattle.std.specs.List.{list_all}
use Rattle.std.specs.Char.{is_ascii_digit}
use Rattle.std.specs.Str.Parse.{digits_value}

-- from `least` to `most` digits, and nothing else
abbrev pub is_digits : ℕ → ℕ → List ℕ → Bool
is_digits least most text =
    nat_le least (length text) && nat_le (length text) most && list_all is_ascii_digit text

-- the number that 1 to `most` digits write
abbrev pub digits_form : ℕ → List ℕ → Option ℕ
digits_form most text = if is_digits 1 most text then Some (digits_value 10 text) else None

-- the number that digits write, none or more; nothing where another byte is among them
abbrev pub number_form : List ℕ → Option ℕ
number_form text = if list_all is_ascii_digit text then Some (digits_value 10 text) else None

-- exactly this many digits, for a number from `low` to `high`
abbrev pub is_digits_between : ℕ → ℕ → ℕ → List ℕ → Bool
is_digits_between width low high text =
    length text == width && list_all is_ascii_digit text
    && nat_le low (digits_value 10 text) && nat_le (digits_value 10 text) high

-- the number from `low` to `high` that exactly this many digits write
abbrev pub digits_between : ℕ → ℕ → ℕ → List ℕ → Option ℕ
digits_between width low high text =
    if is_digits_between width low high text then Some (digits_value 10 text) else None

-- the last digits of a number, this many of them, zeros in front where it is shorter
unfoldable pub fixed_digits : ℕ → ℕ → List ℕ
fixed_digits zero number = []
fixed_digits (suc width) number = fixed_digits width (number / 10) ++ (48 + number % 10) ∷ []

-- the digits of a fraction of this many places, without zeros at its end
unfoldable pub fraction_digits : ℕ → ℕ → List ℕ
fraction_digits zero number = []
fraction_digits (suc places) number =
    if number % 10 == 0 then fraction_digits places (number / 10)
    else fixed_digits (suc places) number
