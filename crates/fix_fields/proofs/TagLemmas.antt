-- A tag's text is the decimal text of its number: 1 to 9 digits, without a leading zero.
use Rattle.std.proofs.Common.{◌≡◌, ◌≢◌, ℕ, zero, suc, ◌+◌, ◌^◌, ◌<◌, ◌≤◌, Bool, true, false, cond, ◌&&◌, eqb, leb, Option, Some, None, List, [], ◌∷◌, ◌++◌, length, get_or, take, drop, ap, sym, refl, ◌∙◌, arith, rules}
use Rattle.std.specs.Char.{is_ascii_digit, digit_value}
use Rattle.std.specs.Fmt.{decimal}
use Rattle.std.specs.List.{All, list_all, position}
use Rattle.std.specs.Str.Parse.{AllDigits, digits_value}
use Rattle.std.proofs.lemmas.Bool.Decides.{nat_tests}
use Rattle.std.proofs.lemmas.List.{get_or_at, length-append}
use Rattle.std.proofs.lemmas.Fmt.{decimal_is_IsNumeral, decimal_nonempty, decimal_digit, first_decimal, length-decimal-le, decimal-digits_value}
use Rattle.std.proofs.lemmas.Int.Digits.{digits_value-lt}
use Rattle.std.proofs.lemmas.List.Elements.{All-from_get_or}
use Rattle.std.proofs.lemmas.List.Sums.{list_all-from_AllPass}
use Rattle.std.proofs.lemmas.Str.Parse.{digit_at, numerals_by_value, tells_digits}
use Rattle.std.proofs.Math.Nat.{pow-le-pow_right}
use Rattle.audit_base.specs.Digits.{is_digits, digits_form}
use Rattle.fix_fields.specs.Forms.{tag_form}
use Rattle.fix_fields.specs.Grammar.{IsTag}
use Rattle.fix_fields.specs.FieldAt.{is_equals_sign}
use Rattle.fix_fields.proofs.SearchLemmas.{chosen_number, equals_is_found, same_until, split_at, FirstEquals}

digit_passes : (c : ℕ) → 48 ≤ c → c ≤ 57 → is_ascii_digit c ≡ true
digit_passes c low high = search (rules, nat_tests)

passing_digit : (c : ℕ) → is_ascii_digit c ≡ true → (48 ≤ c) × (c ≤ 57)
passing_digit c h = (grind (arith, nat_tests), grind (arith, nat_tests))

-- each byte of a tag's text is a digit
pub decimal_at : (tag k : ℕ) → IsTag tag → k < length (decimal tag) → (48 ≤ get_or (decimal tag) k 0) × (get_or (decimal tag) k 0 ≤ 57)
decimal_at tag k is low =
    let h = decimal_is_IsNumeral tag (omega (arith, is.high)) in
    let d = digit_at (decimal tag) k h.0.1 low in (d.0, d.1)

-- so none of them is `=`
pub decimal_no_equals : (tag : ℕ) → IsTag tag → All (λ b. b ≢ 61) (decimal tag)
decimal_no_equals tag is =
    All-from_get_or (λ b. b ≢ 61) (decimal tag) 0 (λ k low e. let d = decimal_at tag k is low in omega arith)

-- and the test for digits passes
decimal_digits : (tag : ℕ) → IsTag tag → list_all is_ascii_digit (decimal tag) ≡ true
decimal_digits tag is =
    list_all-from_AllPass is_ascii_digit (decimal tag) (All-from_get_or (λ b. is_ascii_digit b ≡ true) (decimal tag) 0
    (λ k low. let d = decimal_at tag k is low in digit_passes (get_or (decimal tag) k 0) d.0 d.1))

-- an option that a test chooses, read back
chosen_else : (b : Bool) (x : Option ℕ) (y : ℕ) → cond b None x ≡ Some y → (b ≡ false) × (x ≡ Some y)
chosen_else true x y h = (cc)
chosen_else false x y h = (refl, h)

both_true : (a b : Bool) → (a && b) ≡ true → (a ≡ true) × (b ≡ true)
both_true true b h = (refl, h)
both_true false b h = (cc)

-- a text in the form of a tag is read as the number that its digits write
pub form_of : (text : List ℕ) (tag : ℕ) → 48 < get_or text 0 0 → 0 < length text → length text ≤ 9 → list_all is_ascii_digit text ≡ true → digits_value 10 text ≡ tag → tag_form text ≡ Some tag
form_of text tag first some short digits value =
    let first_test : eqb (get_or text 0 0) 48 ≡ false = search (rules, nat_tests) in
    let some_test : leb 1 (length text) ≡ true = search (rules, nat_tests) in
    let short_test : leb (length text) 9 ≡ true = search (rules, nat_tests) in rw (first_test, some_test, short_test, digits, value)

-- the text of a tag is read as that tag
pub tag_form-decimal : (tag : ℕ) → IsTag tag → tag_form (decimal tag) ≡ Some tag
tag_form-decimal tag is =
    form_of (decimal tag) tag (first_decimal tag is.low (omega (arith, is.high))) (decimal_nonempty tag (omega (arith, is.high)))
    (length-decimal-le 9 tag (omega arith) is.high (omega (arith, is.high))) (decimal_digits tag is) (decimal_is_IsNumeral tag (omega (arith, is.high))).1

-- what holds of a text in the form of digits
pub record Digits (most : ℕ) (text : List ℕ) (value : ℕ) : Type 0 where
  pub some : 0 < length text
  pub short : length text ≤ most
  pub digits : list_all is_ascii_digit text ≡ true
  pub writes : digits_value 10 text ≡ value

pub digits_form-some : (most : ℕ) (text : List ℕ) (value : ℕ) → digits_form most text ≡ Some value → Digits most text value
digits_form-some most text value h =
    let c = chosen_number (is_digits 1 most text) (digits_value 10 text) value h in
    let outer = both_true (leb 1 (length text) && leb (length text) most) (list_all is_ascii_digit text) c.0 in
    let inner = both_true (leb 1 (length text)) (leb (length text) most) outer.0 in
    record { some = grind (arith, nat_tests, inner.0); short = grind (arith, nat_tests, inner.1); digits = outer.1; writes = c.1 }

digit_below : (c : ℕ) → 48 ≤ c → c ≤ 57 → digit_value c < 10
digit_below c low high = grind (arith, nat_tests)

all_digits : (text : List ℕ) → list_all is_ascii_digit text ≡ true → AllDigits 10 text
all_digits [] h = tt
all_digits (c ∷ cs) h =
    let parts = both_true (is_ascii_digit c) (list_all is_ascii_digit cs) h in
    let digit = passing_digit c parts.0 in (digit_below c digit.0 digit.1, all_digits cs parts.1)

-- a text that doesn't begin with `0` isn't that of 0
not_zero : (text : List ℕ) (tag : ℕ) → text ≡ decimal tag → get_or text 0 0 ≢ 48 → 0 < tag
not_zero text zero is first = absurd (first (ap (λ (l : List ℕ). get_or l 0 0) (is ∙ decimal_digit 0 (omega arith))))
not_zero text (suc n) is first = omega arith

-- a text that is read as a tag is that tag's text
pub tag_form-some : (text : List ℕ) (tag : ℕ) → tag_form text ≡ Some tag → (text ≡ decimal tag) × IsTag tag
tag_form-some text tag h =
    let c = chosen_else (eqb (get_or text 0 0) 48) (digits_form 9 text) tag h in
    let first : get_or text 0 0 ≢ 48 = grind (arith, nat_tests, c.0) in
    let d = digits_form-some 9 text tag c.1 in
    let all = all_digits text d.digits in
    let small : digits_value 10 text < 10 ^ length text = digits_value-lt 10 text all in
    let bound : 10 ^ length text ≤ 10 ^ 9 = pow-le-pow_right {n = 10} (omega arith) {i = length text} {j = 9} d.short in
    let writes : digits_value 10 text ≡ tag = d.writes in
    let same : decimal (digits_value 10 text) ≡ text =
    decimal-digits_value (numerals_by_value (AllDigits 10) tells_digits) text all d.some (λ zero. absurd (first zero)) (omega arith) in
    let is : text ≡ decimal tag = sym same ∙ ap decimal writes in
    let low : 0 < tag = not_zero text tag is first in (is, record { low = low; high = omega arith })

-- where what is before the first `=` isn't read as a tag, no tag and `=` are at the front
pub no_tag : (bytes : List ℕ) (size : ℕ) → FirstEquals bytes size → tag_form (take size bytes) ≡ None
    → (tag : ℕ) (more : List ℕ) → IsTag tag → bytes ≢ decimal tag ++ 61 ∷ more
no_tag bytes size first none tag more is e =
    let same = same_until 61 (take size bytes) (decimal tag) (drop (size + 1) bytes) more first.before (decimal_no_equals tag is) (sym (split_at 61 bytes size first.low first.here) ∙ e) in
    let some : tag_form (take size bytes) ≡ Some tag = ap tag_form same.0 ∙ tag_form-decimal tag is in cc

-- and where it is, that tag and `=` do
pub tag_split : (bytes : List ℕ) (size tag : ℕ) → size < length bytes → get_or bytes size 0 ≡ 61 → tag_form (take size bytes) ≡ Some tag → bytes ≡ decimal tag ++ 61 ∷ drop (size + 1) bytes
tag_split bytes size tag low here some =
    let is = (tag_form-some (take size bytes) tag some).0 in split_at 61 bytes size low here ∙ ap (λ (t : List ℕ). t ++ 61 ∷ drop (size + 1) bytes) is

-- where no `=` is among the first ten bytes, no tag and `=` are at the front
pub no_equals : (bytes : List ℕ) → position is_equals_sign (take 10 bytes) ≡ None → (tag : ℕ) (more : List ℕ) → IsTag tag → bytes ≢ decimal tag ++ 61 ∷ more
no_equals bytes none tag more is e =
    let short : length (decimal tag) ≤ 9 = length-decimal-le 9 tag (omega arith) is.high (omega (arith, is.high)) in
    let size : length bytes ≡ length (decimal tag) + length (61 ∷ more) = ap length e ∙ length-append (decimal tag) (61 ∷ more) in
    let here : get_or bytes (length (decimal tag)) 0 ≡ 61 = ap (λ (l : List ℕ). get_or l (length (decimal tag)) 0) e ∙ get_or_at (decimal tag) 61 more 0 (length (decimal tag)) refl in
    equals_is_found bytes (length (decimal tag)) none (omega arith) (omega arith) here
