-- FIX frames: what a message is on the whole text, and the first test that a text fails.
-- Source: FIX 4.4, BeginString (8), BodyLength (9) and CheckSum (10).
--
-- What a name with `with` says of headers that are given, the name without it says of FIX 4.4.
use Rattle.std.specs.Prelude.{◌≡◌, ℕ, ◌+◌, ◌-◌, ◌≤◌, ◌<◌, ◌/◌, ◌%◌, Bool, not, ◌==◌, ◌&&◌, ◌||◌, nat_eq, nat_lt, nat_le, Option, Some, None, List, [], ◌∷◌, ◌++◌, length, take, drop, sum, slice_index, codes, decimal, Contains, IsTrue, if◌then◌else◌}
use Rattle.std.specs.List.{list_all, list_any, take_while, starts_with, slice_range}
use Rattle.std.specs.Char.{is_ascii_digit}
use Rattle.std.specs.Str.Parse.{digits_value}
use Rattle.audit_base.specs.Digits.{is_digits}
use Rattle.audit_base.specs.Sizes.{longest_body, soh}
use Rattle.fix_framing.specs.Headers.{header, fix44, header_size, longest_header, may_begin, is_cut_header}
use Rattle.fix_framing.specs.declared.frames.Frame.{Frame}
use Rattle.fix_framing.specs.declared.frames.FrameFault.{FrameFault}
use Rattle.fix_framing.specs.declared.frames.FrameFault.TheVariants.{Begin, Length, Truncated, Trailer, Checksum}

-- what is before the checksum field: the header, the digits of the body's length, SOH, the body
abbrev pub before_checksum : List ℕ → List ℕ → List ℕ → List ℕ
before_checksum head digits body = head ++ digits ++ soh ∷ body

-- the checksum field: `10=`, its digits, SOH
abbrev pub checksum_field : List ℕ → List ℕ
checksum_field digits = codes "10=" ++ digits ++ soh ∷ []

-- The text is a message with this body, and begins with one of these headers. Its length's
-- 1 to 9 digits write the number of bytes of the body, at most 1,048,576, and its three last
-- digits the sum of all bytes before `10=`, modulo 256
pub record IsFrameWith (headers : List (List ℕ)) (text body : List ℕ) : Type 0 where
  pub head : List ℕ
  pub known : Contains headers head
  pub length_digits : List ℕ
  pub sum_digits : List ℕ
  pub whole : text ≡ before_checksum head length_digits body ++ checksum_field sum_digits
  pub are_digits : IsTrue (is_digits 1 9 length_digits)
  pub counted : digits_value 10 length_digits ≡ length body
  pub bounded : length body ≤ longest_body
  pub three : IsTrue (is_digits 3 3 sum_digits)
  pub summed : digits_value 10 sum_digits ≡ sum (before_checksum head length_digits body) % 256

-- Frame: the text is a message of FIX 4.4 with this body
abbrev pub IsFrame : List ℕ → List ℕ → Type 0
IsFrame text body = IsFrameWith fix44 text body

-- the number of bytes of the longest message: those of the longest header, 9 digits of the body's
-- length, SOH, 1,048,576 of the body, and 7 of the checksum field
abbrev pub longest_frame_with : List (List ℕ) → ℕ
longest_frame_with headers = longest_header headers + 9 + 1 + longest_body + 7

-- the same of FIX 4.4, whose header has 12 bytes
abbrev pub longest_frame : ℕ
longest_frame = 12 + 9 + 1 + longest_body + 7

-- Below r is what is left of a log, from the place on where a message is to begin, and n the
-- number of bytes of the header that it begins with.

-- the digits that follow the header
abbrev pub length_digits : ℕ → List ℕ → List ℕ
length_digits n r = take_while is_ascii_digit (drop n r)

-- the number of bytes of the body, as these digits write it
abbrev pub body_size : ℕ → List ℕ → ℕ
body_size n r = digits_value 10 (length_digits n r)

-- the place of the body: after the header, the digits and SOH
abbrev pub body_place : ℕ → List ℕ → ℕ
body_place n r = n + length (length_digits n r) + 1

-- the place of the checksum field, after the body
abbrev pub trailer_place : ℕ → List ℕ → ℕ
trailer_place n r = body_place n r + body_size n r

-- the seven bytes after the body
abbrev pub trailer_of : ℕ → List ℕ → List ℕ
trailer_of n r = take 7 (drop (trailer_place n r) r)

-- the body, where r begins with one of these headers
abbrev pub body_of_with : List (List ℕ) → List ℕ → List ℕ
body_of_with headers r =
    let n = header_size headers r in
    take (body_size n r) (drop (body_place n r) r)

-- the body, where r begins with the header of FIX 4.4
abbrev pub body_of : List ℕ → List ℕ
body_of r = body_of_with fix44 r

-- the place after the whole message
abbrev pub frame_size_with : List (List ℕ) → List ℕ → ℕ
frame_size_with headers r = trailer_place (header_size headers r) r + 7

-- the same of a message of FIX 4.4
abbrev pub frame_size : List ℕ → ℕ
frame_size r = frame_size_with fix44 r

-- test 1: no header is a prefix of r, and r is a prefix of no header
abbrev pub has_bad_begin : List (List ℕ) → List ℕ → Bool
has_bad_begin headers r = not (list_any (may_begin r) headers)

-- test 2: r is a proper prefix of a header
abbrev pub ends_in_header : List (List ℕ) → List ℕ → Bool
ends_in_header headers r = list_any (is_cut_header r) headers

-- test 3: 10 or more digits follow the header
abbrev pub has_long_length : ℕ → List ℕ → Bool
has_long_length n r = nat_le 10 (length (length_digits n r))

-- test 4: r ends with the digits that follow the header, or right after the header
abbrev pub ends_in_length : ℕ → List ℕ → Bool
ends_in_length n r = length r == n + length (length_digits n r)

-- test 5: no digit follows the header, or the byte after the digits is not
-- SOH, or the value exceeds 1,048,576
abbrev pub has_bad_length : ℕ → List ℕ → Bool
has_bad_length n r =
    length (length_digits n r) == 0
    || not (slice_index r (n + length (length_digits n r)) == soh)
    || nat_lt longest_body (body_size n r)

-- test 6: after that SOH r has fewer than 7 bytes more than the body
abbrev pub ends_in_body : ℕ → List ℕ → Bool
ends_in_body n r = nat_lt (length (drop (body_place n r) r)) (body_size n r + 7)

-- these seven bytes are `10=`, three digits, SOH
abbrev pub is_trailer : List ℕ → Bool
is_trailer seven =
    starts_with nat_eq seven (codes "10=") && list_all is_ascii_digit (slice_range seven 3 6)
    && slice_index seven 6 == soh

-- test 7: the 7 bytes after the body are not `10=`, three digits, SOH
abbrev pub has_bad_trailer : ℕ → List ℕ → Bool
has_bad_trailer n r = not (is_trailer (trailer_of n r))

-- test 8: the three digits do not write the sum of all bytes before `10=`, modulo 256
abbrev pub has_bad_sum : ℕ → List ℕ → Bool
has_bad_sum n r =
    not (digits_value 10 (slice_range (trailer_of n r) 3 6)
    == sum (take (trailer_place n r) r) % 256)

-- the fault of the first test that fails, in a list of tests with their faults
abbrev pub first_failing : List (Bool × FrameFault) → Option FrameFault
first_failing [] = None
first_failing ((fails, fault) ∷ more) = if fails then Some fault else first_failing more

-- the tests in their order: those of the header, of the body's length, and of the rest
abbrev pub header_tests : List (List ℕ) → List ℕ → List (Bool × FrameFault)
header_tests headers r =
    (has_bad_begin headers r, Begin) ∷ (ends_in_header headers r, Truncated) ∷ []

abbrev pub length_tests : ℕ → List ℕ → List (Bool × FrameFault)
length_tests n r =
    (has_long_length n r, Length) ∷ (ends_in_length n r, Truncated)
    ∷ (has_bad_length n r, Length) ∷ []

abbrev pub trailer_tests : ℕ → List ℕ → List (Bool × FrameFault)
trailer_tests n r =
    (ends_in_body n r, Truncated) ∷ (has_bad_trailer n r, Trailer)
    ∷ (has_bad_sum n r, Checksum) ∷ []

abbrev pub frame_tests : List (List ℕ) → List ℕ → List (Bool × FrameFault)
frame_tests headers r =
    let n = header_size headers r in
    header_tests headers r ++ length_tests n r ++ trailer_tests n r

-- the fault of the first test that r fails, or nothing where r begins with a message whose header
-- is one of these
unfoldable pub frame_fault_with : List (List ℕ) → List ℕ → Option FrameFault
frame_fault_with headers r = first_failing (frame_tests headers r)

-- FrameFault: the fault of the first test that r fails, or nothing where a message of FIX 4.4
-- begins at r
abbrev pub frame_fault : List ℕ → Option FrameFault
frame_fault r = frame_fault_with fix44 r

-- the bytes from start to end are a message with one of these headers, whose body runs from
-- `body` to `end - 7`
pub record IsFrameAt (headers : List (List ℕ)) (bytes : List ℕ) (at : ℕ) (frame : Frame)
    : Type 0 where
  pub begins : frame.start ≡ at
  pub within : frame.end ≤ length bytes
  pub body_later : frame.start < frame.body
  pub before : frame.body + 7 ≤ frame.end
  pub message :
      IsFrameWith headers (slice_range bytes frame.start frame.end)
      (slice_range bytes frame.body (frame.end - 7))

-- three digits of a number below 1,000
abbrev pub three_digits : ℕ → List ℕ
three_digits n = (48 + n / 100) ∷ (48 + n / 10 % 10) ∷ (48 + n % 10) ∷ []

-- the message of FIX 4.4 with this body whose length has no leading zero
abbrev pub frame_text : List ℕ → List ℕ
frame_text body =
    let before = before_checksum header (decimal (length body)) body in
    before ++ checksum_field (three_digits (sum before % 256))
