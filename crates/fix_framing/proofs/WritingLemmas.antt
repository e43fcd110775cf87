-- What is written is a message.
use Rattle.std.proofs.Common.{◌≡◌, ℕ, ◌+◌, ◌++◌, ◌∙◌, ap, append_assoc, drop, ◌/◌, ◌%◌, ◌<◌, ◌≤◌, true, List, [], ◌∷◌, length, sum, refl, arith}
use Rattle.std.specs.Prelude.{decimal}
use Rattle.std.specs.List.{list_all}
use Rattle.std.specs.Char.{is_ascii_digit, digit_value}
use Rattle.std.specs.Str.Parse.{digits_value, AllDigits}
use Rattle.std.proofs.Math.Seq.{drop-append_seam}
use Rattle.std.proofs.lemmas.Bool.{and_from, le-leb}
use Rattle.std.proofs.lemmas.Bool.Decides.{nat_tests}
use Rattle.audit_base.proofs.SumLemmas.{Contains-front}
use Rattle.std.proofs.lemmas.Fmt.{decimal_is_IsNumeral, length-decimal-le}
use Rattle.audit_base.specs.Sizes.{soh}
use Rattle.fix_framing.specs.Headers.{header}
use Rattle.fix_framing.specs.Frames.{before_checksum, IsFrame, three_digits, frame_text}

-- what stands behind a text
pub rest_behind : (front rest : List ℕ) → drop (length front) (front ++ rest) ≡ rest
rest_behind front rest = drop-append_seam front rest

-- a text to which the header, the digits of the length, SOH and the body were appended
pub front_is : (old head shown digits body a b c d : List ℕ) → a ≡ old ++ head → b ≡ a ++ shown → shown ≡ digits → c ≡ b ++ soh ∷ [] → d ≡ c ++ body → d ≡ old ++ before_checksum head digits body
front_is old head shown digits body a b c d first second same third fourth =
    rw (fourth, third, second, first, same)
    (append_assoc ((old ++ head) ++ digits) (soh ∷ []) body ∙ ap (λ (front : List ℕ). front ++ soh ∷ body) (append_assoc old head digits) ∙ append_assoc old (head ++ digits) (soh ∷ body))

-- a digit's value, and that it is one
digit-from-value : (c : ℕ) → digit_value c < 10 → is_ascii_digit c ≡ true
digit-from-value c small = grind (arith, nat_tests, small)

list_all-from_AllDigits : (ds : List ℕ) → AllDigits 10 ds → list_all is_ascii_digit ds ≡ true
list_all-from_AllDigits [] h = refl
list_all-from_AllDigits (c ∷ cs) h = and_from (is_ascii_digit c) (list_all is_ascii_digit cs) (digit-from-value c h.0) (list_all-from_AllDigits cs h.1)

digit-of : (d : ℕ) → d < 10 → is_ascii_digit (48 + d) ≡ true
digit-of d small = grind (arith, nat_tests)

value-of : (d : ℕ) → d < 10 → digit_value (48 + d) ≡ d
value-of d small = grind (arith, nat_tests)

three-each : (n : ℕ) → n < 256 → list_all is_ascii_digit (three_digits n) ≡ true
three-each n small =
    and_from _ _ (digit-of (n / 100) (omega arith)) (and_from _ _ (digit-of (n / 10 % 10) (omega arith)) (and_from _ _ (digit-of (n % 10) (omega arith)) refl))

three-value : (n : ℕ) → n < 256 → digits_value 10 (three_digits n) ≡ n
three-value n small =
    let a = value-of (n / 100) (omega arith) in
    let b = value-of (n / 10 % 10) (omega arith) in
    let c = value-of (n % 10) (omega arith) in
    omega arith

pub frame_text_is_frame : (body : List ℕ) → length body ≤ 1048576 → IsFrame (frame_text body) body
frame_text_is_frame body most =
    let before = before_checksum header (decimal (length body)) body in
    let numeral = decimal_is_IsNumeral (length body) (omega arith) in
    let short : length (decimal (length body)) ≤ 9 = length-decimal-le 9 (length body) (omega arith) (omega arith) (omega arith) in
    let small : sum (before_checksum header (decimal (length body)) body) % 256 < 256 = omega arith in
    record {
      head = header;
      known = Contains-front header [];
      length_digits = decimal (length body);
      sum_digits = three_digits (sum (before_checksum header (decimal (length body)) body) % 256);
      whole = refl;
      are_digits = and_from _ _ (and_from _ _ (le-leb 1 (length (decimal (length body))) numeral.0.0) (le-leb (length (decimal (length body))) 9 short)) (list_all-from_AllDigits (decimal (length body)) numeral.0.1);
      counted = numeral.1;
      bounded = most;
      three = and_from _ _ refl (three-each (sum (before_checksum header (decimal (length body)) body) % 256) small);
      summed = three-value (sum (before_checksum header (decimal (length body)) body) % 256) small;
    }
