-- The bytes of a word of eight digits, times 2561: each but the first is two digits.
use Rattle.std.proofs.Common.{◌≡◌, ℕ, true, ◌+◌, ◌-◌, ◌*◌, ◌/◌, ◌%◌, ◌<◌, List, get_or, length, take, arith, ap, refl, ◌∙◌}
use Rattle.std.proofs.lemmas.List.{take_all}
use Rattle.std.specs.Char.{is_ascii_digit}
use Rattle.std.specs.List.{list_all}
use Rattle.std.specs.Str.Parse.{digits_value}
use Rattle.std.proofs.lemmas.Int.Digits.{digits_value_more}
use Rattle.audit_base.proofs.DigitLemmas.{digit_at, digit_value_is}
use Rattle.audit_base.proofs.digits.value_of_eight.Goals as goal

-- a word of eight bytes, the lowest first
abbrev word_of : ℕ → ℕ → ℕ → ℕ → ℕ → ℕ → ℕ → ℕ → ℕ
word_of a b c d e f g h =
    a + b * 256 + c * 65536 + d * 16777216 + e * 4294967296 + f * 1099511627776 + g * 281474976710656 + h * 72057594037927936

pairs : (a b c d e f g h : ℕ) → a < 10 → b < 10 → c < 10 → d < 10 → e < 10 → f < 10 → g < 10 → h < 10
    → word_of a b c d e f g h * 2561 % 18446744073709551616 ≡ word_of a (a * 10 + b) (b * 10 + c) (c * 10 + d) (d * 10 + e) (e * 10 + f) (f * 10 + g) (g * 10 + h)
pairs a b c d e f g h a' b' c' d' e' f' g' h' = omega arith

second : (a b c d e f g h : ℕ) → a < 256 → b < 256 → word_of a b c d e f g h / 256 % 256 ≡ b
second a b c d e f g h a' b' = omega arith

fourth : (a b c d e f g h : ℕ) → a < 256 → b < 256 → c < 256 → d < 256 → word_of a b c d e f g h / 16777216 % 256 ≡ d
fourth a b c d e f g h a' b' c' d' = omega arith

sixth : (a b c d e f g h : ℕ) → a < 256 → b < 256 → c < 256 → d < 256 → e < 256 → f < 256 → word_of a b c d e f g h / 1099511627776 % 256 ≡ f
sixth a b c d e f g h a' b' c' d' e' f' = omega arith

eighth : (a b c d e f g h : ℕ) → a < 256 → b < 256 → c < 256 → d < 256 → e < 256 → f < 256 → g < 256 → word_of a b c d e f g h / 72057594037927936 ≡ h
eighth a b c d e f g h a' b' c' d' e' f' g' = omega arith

-- four pairs of digits in the word
eight_digits : (a b c d e f g h : ℕ) → a < 10 → b < 10 → c < 10 → d < 10 → e < 10 → f < 10 → g < 10 → h < 10
    → (word : ℕ) → word ≡ word_of a b c d e f g h
    → ((word * 2561 % 18446744073709551616 / 256 % 256 * 100 + word * 2561 % 18446744073709551616 / 16777216 % 256) * 100 + word * 2561 % 18446744073709551616 / 1099511627776 % 256) * 100
    + word * 2561 % 18446744073709551616 / 72057594037927936 ≡ ((((((a * 10 + b) * 10 + c) * 10 + d) * 10 + e) * 10 + f) * 10 + g) * 10 + h
eight_digits a b c d e f g h a' b' c' d' e' f' g' h' word is =
    let all = ap (λ (w : ℕ). w * 2561 % 18446744073709551616) is ∙ pairs a b c d e f g h a' b' c' d' e' f' g' h' in
    let two = second a (a * 10 + b) (b * 10 + c) (c * 10 + d) (d * 10 + e) (e * 10 + f) (f * 10 + g) (g * 10 + h) (omega arith) (omega arith) in
    let four = fourth a (a * 10 + b) (b * 10 + c) (c * 10 + d) (d * 10 + e) (e * 10 + f) (f * 10 + g) (g * 10 + h) (omega arith) (omega arith) (omega arith) (omega arith) in
    let six = sixth a (a * 10 + b) (b * 10 + c) (c * 10 + d) (d * 10 + e) (e * 10 + f) (f * 10 + g) (g * 10 + h) (omega arith) (omega arith) (omega arith) (omega arith) (omega arith) (omega arith) in
    let eight = eighth a (a * 10 + b) (b * 10 + c) (c * 10 + d) (d * 10 + e) (e * 10 + f) (f * 10 + g) (g * 10 + h) (omega arith) (omega arith) (omega arith) (omega arith) (omega arith) (omega arith) (omega arith) in
    rw (all, two, four, six, eight) (omega arith)

-- each byte of a digit is 48 more than the digit
lowered : (word a b c d e f g h : ℕ) → word ≡ word_of (a + 48) (b + 48) (c + 48) (d + 48) (e + 48) (f + 48) (g + 48) (h + 48)
    → word - 3472328296227680304 ≡ word_of a b c d e f g h
lowered word a b c d e f g h is = omega arith

-- the number of eight digits, one after another
one_by_one : (a b c d e f g h : ℕ) (v : ℕ → ℕ) → v 0 ≡ 0 → v 1 ≡ v 0 * 10 + a → v 2 ≡ v 1 * 10 + b → v 3 ≡ v 2 * 10 + c → v 4 ≡ v 3 * 10 + d
    → v 5 ≡ v 4 * 10 + e → v 6 ≡ v 5 * 10 + f → v 7 ≡ v 6 * 10 + g → v 8 ≡ v 7 * 10 + h
    → ((((((a * 10 + b) * 10 + c) * 10 + d) * 10 + e) * 10 + f) * 10 + g) * 10 + h ≡ v 8
one_by_one a b c d e f g h v is is' is'' is3 is4 is5 is6 is7 is8 = omega arith

-- a digit more
record IsDigitMore (text : List ℕ) (i : ℕ) : Type 0 where
  small : get_or text i 0 - 48 < 10
  byte : get_or text i 0 ≡ get_or text i 0 - 48 + 48
  value : digits_value 10 (take (i + 1) text) ≡ digits_value 10 (take i text) * 10 + (get_or text i 0 - 48)

more : (text : List ℕ) (i : ℕ) → i < length text → list_all is_ascii_digit text ≡ true → IsDigitMore text i
more text i within are =
    let digit = digit_at text i within are in
    let value = digit_value_is (get_or text i 0) digit.0 digit.1 in
    record {
      small = omega arith;
      byte = omega arith;
      value = digits_value_more 10 text i within ∙ ap (λ (d : ℕ). digits_value 10 (take i text) * 10 + d) value;
    }

of_word : (text : List ℕ) (word : ℕ) → length text ≡ 8 → list_all is_ascii_digit text ≡ true
    → word ≡ word_of (get_or text 0 0) (get_or text 1 0) (get_or text 2 0) (get_or text 3 0) (get_or text 4 0) (get_or text 5 0) (get_or text 6 0) (get_or text 7 0)
    → (((word - 3472328296227680304) * 2561 % 18446744073709551616 / 256 % 256 * 100 + (word - 3472328296227680304) * 2561 % 18446744073709551616 / 16777216 % 256) * 100
    + (word - 3472328296227680304) * 2561 % 18446744073709551616 / 1099511627776 % 256) * 100 + (word - 3472328296227680304) * 2561 % 18446744073709551616 / 72057594037927936
    ≡ digits_value 10 text
of_word text word size are is =
    let at0 = more text 0 (omega arith) are in
    let at1 = more text 1 (omega arith) are in
    let at2 = more text 2 (omega arith) are in
    let at3 = more text 3 (omega arith) are in
    let at4 = more text 4 (omega arith) are in
    let at5 = more text 5 (omega arith) are in
    let at6 = more text 6 (omega arith) are in
    let at7 = more text 7 (omega arith) are in
    let whole : digits_value 10 (take 8 text) ≡ digits_value 10 text = ap (digits_value 10) (take_all 8 text (omega arith)) in
    let lower = lowered word (get_or text 0 0 - 48) (get_or text 1 0 - 48) (get_or text 2 0 - 48) (get_or text 3 0 - 48) (get_or text 4 0 - 48) (get_or text 5 0 - 48) (get_or text 6 0 - 48) (get_or text 7 0 - 48)
    (is ∙ (λ i. word_of (at0.byte i) (at1.byte i) (at2.byte i) (at3.byte i) (at4.byte i) (at5.byte i) (at6.byte i) (at7.byte i))) in
    eight_digits (get_or text 0 0 - 48) (get_or text 1 0 - 48) (get_or text 2 0 - 48) (get_or text 3 0 - 48) (get_or text 4 0 - 48) (get_or text 5 0 - 48) (get_or text 6 0 - 48) (get_or text 7 0 - 48) at0.small at1.small at2.small at3.small at4.small at5.small at6.small at7.small _ lower
    ∙ one_by_one (get_or text 0 0 - 48) (get_or text 1 0 - 48) (get_or text 2 0 - 48) (get_or text 3 0 - 48) (get_or text 4 0 - 48) (get_or text 5 0 - 48) (get_or text 6 0 - 48) (get_or text 7 0 - 48) (λ k. digits_value 10 (take k text)) refl at0.value at1.value at2.value at3.value at4.value at5.value at6.value at7.value ∙ whole

pub returns-clause-value : goal.returns-clause-value
returns-clause-value c = of_word c.args.digits.now c.from_le_bytes-word.result c.requires.size c.requires.digits c.from_le_bytes-word.ensures
