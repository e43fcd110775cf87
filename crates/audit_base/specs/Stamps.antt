-- The written form of points in time, after FIX 4.4, UTCTimestamp:
-- `YYYYMMDD-HH:MM:SS`, then optionally a point and a fraction of three, six or nine digits.
-- The codes of `-`, `.` and `:` are 45, 46, 58.
use Rattle.std.specs.Prelude.{ℕ, ◌+◌, ◌-◌, ◌*◌, ◌/◌, ◌%◌, ◌^◌, ◌==◌, ◌&&◌, ◌||◌, nat_le, Option, Some, None, List, [], ◌∷◌, ◌++◌, length, slice_index, take, drop, if◌then◌else◌}
use Rattle.audit_base.specs.Digits.{digits_between, digits_form, fixed_digits}
use Rattle.audit_base.specs.Moments.{Moment}

-- days are counted as if each month had 31
abbrev pub day_of : Option ℕ → Option ℕ → Option ℕ → Option ℕ
day_of None month day = None
day_of (Some year) None day = None
day_of (Some year) (Some month) None = None
day_of (Some year) (Some month) (Some day) = Some ((year * 12 + (month - 1)) * 31 + (day - 1))

-- `YYYYMMDD`, with no further calendar rule
abbrev pub date_form : List ℕ → Option ℕ
date_form text =
    day_of (digits_between 4 0 9999 (take 4 text)) (digits_between 2 1 12 (take 2 (drop 4 text)))
    (digits_between 2 1 31 (drop 6 text))

-- minutes are counted with 61 seconds, since one may have a leap second
abbrev pub second_of : Option ℕ → Option ℕ → Option ℕ → Option ℕ
second_of None minute second = None
second_of (Some hour) None second = None
second_of (Some hour) (Some minute) None = None
second_of (Some hour) (Some minute) (Some second) = Some ((hour * 60 + minute) * 61 + second)

-- `HH:MM:SS`
abbrev pub clock_form : List ℕ → Option ℕ
clock_form text =
    if slice_index text 2 == 58 && slice_index text 5 == 58
    then second_of (digits_between 2 0 23 (take 2 text))
    (digits_between 2 0 59 (take 2 (drop 3 text))) (digits_between 2 0 60 (drop 6 text)) else None

-- nine digits are nanoseconds, fewer are filled with zeros
abbrev pub nano_of_fraction : ℕ → Option ℕ → Option ℕ
nano_of_fraction places None = None
nano_of_fraction places (Some fraction) = Some (fraction * 10 ^ (9 - places))

-- three, six or nine digits
abbrev pub fraction_of : List ℕ → Option ℕ
fraction_of digits =
    if length digits == 3 || length digits == 6 || length digits == 9
    then nano_of_fraction (length digits) (digits_form 9 digits) else None

-- nothing, or a point and a fraction
abbrev pub fraction_form : List ℕ → Option ℕ
fraction_form [] = Some 0
fraction_form (point ∷ digits) = if point == 46 then fraction_of digits else None

-- a day has 24 hours of 60 minutes of 61 seconds
abbrev pub moment_of : Option ℕ → Option ℕ → Option ℕ → Option Moment
moment_of None clock nano = None
moment_of (Some day) None nano = None
moment_of (Some day) (Some clock) None = None
moment_of (Some day) (Some clock) (Some nano) =
    Some (record { second = day * (24 * 60 * 61) + clock; nano = nano })

-- the point in time of the same second with another fraction
abbrev pub with_fraction : Option Moment → Option ℕ → Option Moment
with_fraction None nano = None
with_fraction (Some moment) None = None
with_fraction (Some moment) (Some nano) = Some (record { second = moment.second; nano = nano })

-- a point in time: date, `-`, clock and fraction
abbrev pub stamp_form : List ℕ → Option Moment
stamp_form text =
    if nat_le 17 (length text) && slice_index text 8 == 45
    then moment_of (date_form (take 8 text)) (clock_form (take 8 (drop 9 text)))
    (fraction_form (drop 17 text)) else None

-- `YYYYMMDD` of a day
abbrev pub date_text : ℕ → List ℕ
date_text day =
    fixed_digits 4 (day / 31 / 12)
    ++ fixed_digits 2 (day / 31 % 12 + 1) ++ fixed_digits 2 (day % 31 + 1)

-- `HH:MM:SS` of a second of a day
abbrev pub clock_text : ℕ → List ℕ
clock_text second =
    fixed_digits 2 (second / 61 / 60) ++ 58 ∷ fixed_digits 2 (second / 61 % 60)
    ++ 58 ∷ fixed_digits 2 (second % 61)

-- the fewest digits of three, six and nine that lose nothing, and none for zero
abbrev pub nano_text : ℕ → List ℕ
nano_text nano =
    if nano == 0 then []
    else if nano % 10 ^ 6 == 0 then 46 ∷ fixed_digits 3 (nano / 10 ^ 6)
    else if nano % 10 ^ 3 == 0 then 46 ∷ fixed_digits 6 (nano / 10 ^ 3)
    else 46 ∷ fixed_digits 9 nano

-- the canonical text of a point in time
abbrev pub stamp_text : Moment → List ℕ
stamp_text stamp =
    date_text (stamp.second / (24 * 60 * 61)) ++ 45 ∷ clock_text (stamp.second % (24 * 60 * 61))
    ++ nano_text stamp.nano
