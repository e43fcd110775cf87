-- Tests 3 to 5, from how many digits follow the header.
use Rattle.std.proofs.Common.{◌≡◌, ◌≢◌, ℕ, zero, suc, ◌+◌, ◌-◌, ◌<◌, ◌≤◌, min, Bool, true, false, cond, ◌==◌, inl, inr, Some, None, List, [], ◌∷◌, length, take, drop, refl, sym, ap, ◌∙◌, arith}
use Rattle.std.specs.Prelude.{slice_index, nat_lt}
use Rattle.std.specs.List.{list_all, prefix_len}
use Rattle.std.specs.Char.{is_ascii_digit}
use Rattle.std.specs.Str.Parse.{digits_value}
use Rattle.std.proofs.lemmas.List.{length-take-le, length-take, length-drop, get_or-take, get_or-drop, take-take}
use Rattle.std.proofs.lemmas.List.Sums.{prefix_len-le-length, prefix_len_passes}
use Rattle.std.proofs.lemmas.Bool.{and_parts, and_cases, or_left, or_right, or_from, not_from_false, not_from_true, lt-ltb, le-ltb, le-leb, lt-leb, eq-eqb, eqb-true, ne_eqb, cases_lt}
use Rattle.memchr.specs.Find.{Nowhere, NoneBefore, Passes, is_byte}
use Rattle.fix_framing.specs.declared.frames.FrameFault.TheVariants.{Length, Truncated}
use Rattle.fix_framing.specs.Frames.{length_digits, length_tests, has_long_length, ends_in_length, has_bad_length, first_failing, body_size, body_place}
use Rattle.fix_framing.specs.LengthField.{IsLengthField}

-- how many digits follow the header
abbrev pub count_of : ℕ → List ℕ → ℕ
count_of n r = prefix_len is_ascii_digit (drop n r)

pub length-length_digits : (n : ℕ) (r : List ℕ) → length (length_digits n r) ≡ count_of n r
length-length_digits n r = length-take-le (count_of n r) (drop n r) (prefix_len-le-length is_ascii_digit (drop n r))

-- the front of a text that passes, where the text is all or in part such
pub prefix_len-all : (p : ℕ → Bool) (xs : List ℕ) → list_all p xs ≡ true → prefix_len p xs ≡ length xs
prefix_len-all p [] h = refl
prefix_len-all p (x ∷ xs) h =
    let both = and_parts (p x) (list_all p xs) h in
    let more = prefix_len-all p xs both.1 in rw both.0 (omega arith)

cond-le : (b : Bool) (n : ℕ) → cond b (1 + n) 0 ≤ 1 + n
cond-le true n = omega arith
cond-le false n = omega arith

pub prefix_len-part : (p : ℕ → Bool) (xs : List ℕ) → list_all p xs ≡ false → prefix_len p xs < length xs
prefix_len-part p [] h = absurd (cc)
prefix_len-part p (x ∷ xs) h =
    elim (and_cases (p x) (list_all p xs) h) [
      | inl here ↦ rw here (omega arith)
      | inr later ↦ let more = prefix_len-part p xs later in let most = cond-le (p x) (prefix_len p xs) in omega arith
    ]

min-cond : (b : Bool) (m n : ℕ) → cond b (1 + min n m) 0 ≡ min (suc n) (cond b (1 + m) 0)
min-cond true m n = omega arith
min-cond false m n = omega arith

pub prefix_len-take : (p : ℕ → Bool) (n : ℕ) (xs : List ℕ) → prefix_len p (take n xs) ≡ min n (prefix_len p xs)
prefix_len-take p zero xs = omega arith
prefix_len-take p (suc n) [] = omega arith
prefix_len-take p (suc n) (x ∷ xs) = rw (prefix_len-take p n xs) (min-cond (p x) (prefix_len p xs) n)

-- which fault tests 3 to 5 give, by their answers
choose-long : (a b c : Bool) → a ≡ true → first_failing ((a, Length) ∷ (b, Truncated) ∷ (c, Length) ∷ []) ≡ Some Length
choose-long true b c h = refl
choose-long false b c h = absurd (cc)

choose-cut : (a b c : Bool) → a ≡ false → b ≡ true → first_failing ((a, Length) ∷ (b, Truncated) ∷ (c, Length) ∷ []) ≡ Some Truncated
choose-cut false true c h k = refl
choose-cut true b c h k = absurd (cc)
choose-cut false false c h k = absurd (cc)

choose-bad : (a b c : Bool) → b ≡ false → c ≡ true → first_failing ((a, Length) ∷ (b, Truncated) ∷ (c, Length) ∷ []) ≡ Some Length
choose-bad true b c h k = refl
choose-bad false false true h k = refl
choose-bad false true c h k = absurd (cc)
choose-bad false false false h k = absurd (cc)

choose-none : (a b c : Bool) → a ≡ false → b ≡ false → c ≡ false → first_failing ((a, Length) ∷ (b, Truncated) ∷ (c, Length) ∷ []) ≡ None
choose-none false false false h k l = refl
choose-none true b c h k l = absurd (cc)
choose-none false true c h k l = absurd (cc)
choose-none false false true h k l = absurd (cc)

-- ten digits or more
pub fault-long : (n : ℕ) (r : List ℕ) → 10 ≤ count_of n r → first_failing (length_tests n r) ≡ Some Length
fault-long n r many =
    let count = length-length_digits n r in
    choose-long (has_long_length n r) (ends_in_length n r) (has_bad_length n r) (le-leb 10 (length (length_digits n r)) (omega arith))

-- fewer, and nothing after them
pub fault-cut : (n : ℕ) (r : List ℕ) → count_of n r < 10 → length r ≡ n + count_of n r → first_failing (length_tests n r) ≡ Some Truncated
fault-cut n r few ends =
    let count = length-length_digits n r in
    choose-cut (has_long_length n r) (ends_in_length n r) (has_bad_length n r) (lt-leb 10 (length (length_digits n r)) (omega arith)) (eq-eqb (length r) (n + length (length_digits n r)) (omega arith))

-- something else than SOH after them
pub fault-other : (n : ℕ) (r : List ℕ) → n + count_of n r < length r → slice_index r (n + count_of n r) ≢ 1 → first_failing (length_tests n r) ≡ Some Length
fault-other n r more other =
    let count = length-length_digits n r in
    let here : slice_index r (n + length (length_digits n r)) ≢ 1 = rw count other in
    let bad = or_right (length (length_digits n r) == 0) _ (not_from_false (slice_index r (n + length (length_digits n r)) == 1) (ne_eqb (slice_index r (n + length (length_digits n r))) 1 here)) in
    choose-bad (has_long_length n r) (ends_in_length n r) (has_bad_length n r) (ne_eqb (length r) (n + length (length_digits n r)) (λ e. omega arith)) (or_left _ (nat_lt 1048576 (body_size n r)) bad)

-- the ten bytes after the header
abbrev pub window_of : ℕ → List ℕ → List ℕ
window_of n r = take 10 (drop n r)

length-window : (n : ℕ) (r : List ℕ) → length (window_of n r) ≡ min 10 (length r - n)
length-window n r = rw (length-take 10 (drop n r), length-drop n r) refl

-- a byte of theirs that is neither a digit nor SOH
other-in-window : (n : ℕ) (r : List ℕ) → count_of n r < length (window_of n r) → ((slice_index (window_of n r) (count_of n r) == 1) ≡ true → ⊥) → first_failing (length_tests n r) ≡ Some Length
other-in-window n r inside other =
    let most = length-window n r in
    let front = get_or-take 10 (drop n r) (count_of n r) 0 (omega arith) in
    let back = get_or-drop n r (count_of n r) 0 in
    fault-other n r (omega arith) (λ soh. other (eq-eqb _ 1 (front ∙ (back ∙ soh))))

-- no SOH among them, and not all are digits
pub none-part : (n : ℕ) (r : List ℕ) → Nowhere (Passes (is_byte 1) (window_of n r)) 0 (length (window_of n r)) → list_all is_ascii_digit (window_of n r) ≡ false → first_failing (length_tests n r) ≡ Some Length
none-part n r nowhere part =
    let shorter = prefix_len-part is_ascii_digit (window_of n r) part in
    let count = prefix_len-take is_ascii_digit 10 (drop n r) in
    let most = length-window n r in
    let inside : count_of n r < length (window_of n r) = omega arith in
    other-in-window n r inside (nowhere (count_of n r) (omega arith) inside)

-- no SOH among them, and there are ten
pub none-long : (n : ℕ) (r : List ℕ) → Nowhere (Passes (is_byte 1) (window_of n r)) 0 (length (window_of n r)) → 10 ≤ length (window_of n r) → first_failing (length_tests n r) ≡ Some Length
none-long n r nowhere ten =
    elim (cases_lt (count_of n r) 10) [
      | inl few ↦ let inside : count_of n r < length (window_of n r) = omega arith in other-in-window n r inside (nowhere (count_of n r) (omega arith) inside)
      | inr many ↦ fault-long n r many
    ]

-- no SOH among them, all are digits, and the text ends with them
pub none-cut : (n : ℕ) (r : List ℕ) → n ≤ length r → length (window_of n r) < 10 → list_all is_ascii_digit (window_of n r) ≡ true → first_failing (length_tests n r) ≡ Some Truncated
none-cut n r inside few each =
    let all = prefix_len-all is_ascii_digit (window_of n r) each in
    let count = prefix_len-take is_ascii_digit 10 (drop n r) in
    let most = length-window n r in
    fault-cut n r (omega arith) (omega arith)

-- SOH after something that isn't all digits
pub some-part : (n : ℕ) (r : List ℕ) (d : ℕ) → NoneBefore (Passes (is_byte 1) (window_of n r)) 0 (length (window_of n r)) d → list_all is_ascii_digit (take d (window_of n r)) ≡ false → first_failing (length_tests n r) ≡ Some Length
some-part n r d first part =
    let shorter = prefix_len-part is_ascii_digit (take d (window_of n r)) part in
    let inner = prefix_len-take is_ascii_digit d (window_of n r) in
    let outer = prefix_len-take is_ascii_digit 10 (drop n r) in
    let most = length-window n r in
    let taken = length-take d (window_of n r) in
    let high = first.high in
    let below : count_of n r < d = omega arith in
    other-in-window n r (omega arith) (first.before (count_of n r) (omega arith) below)

-- SOH after digits
pub some-field : (n : ℕ) (r : List ℕ) (d : ℕ) → NoneBefore (Passes (is_byte 1) (window_of n r)) 0 (length (window_of n r)) d → Passes (is_byte 1) (window_of n r) d → 0 < d → list_all is_ascii_digit (take d (window_of n r)) ≡ true → IsLengthField (drop n r) d
some-field n r d first soh some each =
    let most = length-window n r in
    let rest = length-drop n r in
    let high = first.high in
    let front = get_or-take 10 (drop n r) d 0 (omega arith) in
    let shown = eqb-true (slice_index (window_of n r) d) 1 soh in
    let same = take-take d 10 (drop n r) (omega arith) in
    record {
      positive = some;
      at_most_nine = omega arith;
      inside = omega arith;
      each = rw (← same) each;
      ended = sym front ∙ shown;
    }

-- the digits of such a field are all that follow the header
pub field-count : (n : ℕ) (r : List ℕ) (d : ℕ) → IsLengthField (drop n r) d → count_of n r ≡ d
field-count n r d field =
    let all = prefix_len-all is_ascii_digit (take d (drop n r)) field.each in
    let front = prefix_len-take is_ascii_digit d (drop n r) in
    let inside = field.inside in
    let taken = length-take d (drop n r) in
    elim (cases_lt d (count_of n r)) [
      | inl more ↦
          let digit = prefix_len_passes is_ascii_digit (drop n r) d 0 more in
          let soh = rw field.ended at digit in
          absurd (cc)
      | inr most ↦ omega arith
    ]

pub field-digits : (n : ℕ) (r : List ℕ) (d : ℕ) → IsLengthField (drop n r) d → length_digits n r ≡ take d (drop n r)
field-digits n r d field = ap (λ (k : ℕ). take k (drop n r)) (field-count n r d field)

field-length : (n : ℕ) (r : List ℕ) (d : ℕ) → IsLengthField (drop n r) d → length (length_digits n r) ≡ d
field-length n r d field = length-length_digits n r ∙ field-count n r d field

field-more : (n : ℕ) (r : List ℕ) (d : ℕ) → IsLengthField (drop n r) d → ends_in_length n r ≡ false
field-more n r d field =
    let count = field-length n r d field in
    let inside = field.inside in
    let rest = length-drop n r in
    ne_eqb (length r) (n + length (length_digits n r)) (λ e. omega arith)

-- the value is too great
pub fault-great : (n : ℕ) (r : List ℕ) (d : ℕ) → IsLengthField (drop n r) d → 1048576 < digits_value 10 (take d (drop n r)) → first_failing (length_tests n r) ≡ Some Length
fault-great n r d field great =
    let value : 1048576 < body_size n r = rw (field-digits n r d field) great in
    choose-bad (has_long_length n r) (ends_in_length n r) (has_bad_length n r) (field-more n r d field) (or_right _ (nat_lt 1048576 (body_size n r)) (lt-ltb 1048576 (body_size n r) value))

-- it isn't
pub no-fault : (n : ℕ) (r : List ℕ) (d : ℕ) → IsLengthField (drop n r) d → digits_value 10 (take d (drop n r)) ≤ 1048576 → first_failing (length_tests n r) ≡ None
no-fault n r d field small =
    let count = field-length n r d field in
    let few = field.at_most_nine in
    let some = field.positive in
    let value : body_size n r ≤ 1048576 = rw (field-digits n r d field) small in
    let soh : slice_index r (n + length (length_digits n r)) ≡ 1 = rw count (sym (get_or-drop n r d 0) ∙ field.ended) in
    let none = ne_eqb (length (length_digits n r)) 0 (λ e. omega arith) in
    let ended = not_from_true (slice_index r (n + length (length_digits n r)) == 1) (eq-eqb (slice_index r (n + length (length_digits n r))) 1 soh) in
    let fits = le-ltb 1048576 (body_size n r) value in
    choose-none (has_long_length n r) (ends_in_length n r) (has_bad_length n r) (lt-leb 10 (length (length_digits n r)) (omega arith)) (field-more n r d field) (or_from _ (nat_lt 1048576 (body_size n r)) (or_from (length (length_digits n r) == 0) _ none ended) fits)

-- the places of the body and of the checksum field
pub field-body : (n : ℕ) (r : List ℕ) (d : ℕ) → IsLengthField (drop n r) d → n + d + 1 ≡ body_place n r
field-body n r d field = let count = field-length n r d field in omega arith

pub field-size : (n : ℕ) (r : List ℕ) (d : ℕ) → IsLengthField (drop n r) d → digits_value 10 (take d (drop n r)) ≡ body_size n r
field-size n r d field = rw (field-digits n r d field) refl
