-- Tests 6 to 8, from the place of the checksum field.
use Rattle.std.proofs.Common.{◌≡◌, ◌≢◌, ℕ, ◌+◌, ◌-◌, ◌<◌, ◌≤◌, ◌%◌, Bool, true, false, Some, None, List, [], ◌∷◌, length, take, drop, sum, refl, arith}
use Rattle.std.specs.List.{slice_range}
use Rattle.std.specs.Str.Parse.{digits_value}
use Rattle.std.proofs.lemmas.List.{length-drop}
use Rattle.std.proofs.lemmas.Bool.{lt-ltb, le-ltb, eq-eqb, ne_eqb, not_from_false, not_from_true}
use Rattle.fix_framing.specs.declared.frames.FrameFault.TheVariants.{Truncated, Trailer, Checksum}
use Rattle.fix_framing.specs.Frames.{body_place, body_size, trailer_place, trailer_of, ends_in_body, is_trailer, has_bad_trailer, has_bad_sum, trailer_tests, first_failing}

-- which fault tests 6 to 8 give, by their answers
choose-cut : (a b c : Bool) → a ≡ true → first_failing ((a, Truncated) ∷ (b, Trailer) ∷ (c, Checksum) ∷ []) ≡ Some Truncated
choose-cut true b c h = refl
choose-cut false b c h = absurd (cc)

choose-trailer : (a b c : Bool) → a ≡ false → b ≡ true → first_failing ((a, Truncated) ∷ (b, Trailer) ∷ (c, Checksum) ∷ []) ≡ Some Trailer
choose-trailer false true c h k = refl
choose-trailer true b c h k = absurd (cc)
choose-trailer false false c h k = absurd (cc)

choose-sum : (a b c : Bool) → a ≡ false → b ≡ false → c ≡ true → first_failing ((a, Truncated) ∷ (b, Trailer) ∷ (c, Checksum) ∷ []) ≡ Some Checksum
choose-sum false false true h k l = refl
choose-sum true b c h k l = absurd (cc)
choose-sum false true c h k l = absurd (cc)
choose-sum false false false h k l = absurd (cc)

choose-none : (a b c : Bool) → a ≡ false → b ≡ false → c ≡ false → first_failing ((a, Truncated) ∷ (b, Trailer) ∷ (c, Checksum) ∷ []) ≡ None
choose-none false false false h k l = refl
choose-none true b c h k l = absurd (cc)
choose-none false true c h k l = absurd (cc)
choose-none false false true h k l = absurd (cc)

-- the message ends before its checksum field does
pub fault-cut : (n : ℕ) (r : List ℕ) (t : ℕ) → t ≡ trailer_place n r → length r < t + 7 → first_failing (trailer_tests n r) ≡ Some Truncated
fault-cut n r t place short =
    let rest = length-drop (body_place n r) r in
    choose-cut (ends_in_body n r) (has_bad_trailer n r) (has_bad_sum n r) (lt-ltb (length (drop (body_place n r) r)) (body_size n r + 7) (omega arith))

body-whole : (n : ℕ) (r : List ℕ) (t : ℕ) → t ≡ trailer_place n r → t + 7 ≤ length r → ends_in_body n r ≡ false
body-whole n r t place long =
    let rest = length-drop (body_place n r) r in
    le-ltb (length (drop (body_place n r) r)) (body_size n r + 7) (omega arith)

-- the seven bytes from t on
pub trailer-at : (n : ℕ) (r : List ℕ) (t : ℕ) → t ≡ trailer_place n r → take (t + 7 - t) (drop t r) ≡ trailer_of n r
trailer-at n r t place =
    let seven : t + 7 - t ≡ 7 = omega arith in rw (seven, place) refl

-- they are no checksum field
pub fault-trailer : (n : ℕ) (r : List ℕ) (t : ℕ) → t ≡ trailer_place n r → t + 7 ≤ length r → is_trailer (take (t + 7 - t) (drop t r)) ≡ false → first_failing (trailer_tests n r) ≡ Some Trailer
fault-trailer n r t place long bad =
    let other = rw (trailer-at n r t place) at bad in
    choose-trailer (ends_in_body n r) (has_bad_trailer n r) (has_bad_sum n r) (body-whole n r t place long) (not_from_false (is_trailer (trailer_of n r)) other)

-- they are one, and write another sum
pub fault-sum : (n : ℕ) (r : List ℕ) (t : ℕ) → t ≡ trailer_place n r → t + 7 ≤ length r → is_trailer (take (t + 7 - t) (drop t r)) ≡ true → digits_value 10 (slice_range (take (t + 7 - t) (drop t r)) 3 6) ≢ sum (take t r) % 256 → first_failing (trailer_tests n r) ≡ Some Checksum
fault-sum n r t place long good other =
    let field = rw (trailer-at n r t place) at good in
    let apart = rw (trailer-at n r t place, place) at other in
    choose-sum (ends_in_body n r) (has_bad_trailer n r) (has_bad_sum n r) (body-whole n r t place long) (not_from_true (is_trailer (trailer_of n r)) field) (not_from_false _ (ne_eqb (digits_value 10 (slice_range (trailer_of n r) 3 6)) (sum (take (trailer_place n r) r) % 256) apart))

-- they are one, and write the sum
pub no-fault : (n : ℕ) (r : List ℕ) (t : ℕ) → t ≡ trailer_place n r → t + 7 ≤ length r → is_trailer (take (t + 7 - t) (drop t r)) ≡ true → digits_value 10 (slice_range (take (t + 7 - t) (drop t r)) 3 6) ≡ sum (take t r) % 256 → first_failing (trailer_tests n r) ≡ None
no-fault n r t place long good same =
    let field = rw (trailer-at n r t place) at good in
    let equal = rw (trailer-at n r t place, place) at same in
    choose-none (ends_in_body n r) (has_bad_trailer n r) (has_bad_sum n r) (body-whole n r t place long) (not_from_true (is_trailer (trailer_of n r)) field) (not_from_true _ (eq-eqb (digits_value 10 (slice_range (trailer_of n r) 3 6)) (sum (take (trailer_place n r) r) % 256) equal))
