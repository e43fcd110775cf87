-- The digits that the writers write: how many they are, that they are digits, and what they write.
use Rattle.std.proofs.Common.{◌≡◌, ℕ, true, ◌+◌, ◌-◌, ◌*◌, ◌/◌, ◌%◌, ◌^◌, ◌<◌, ◌≤◌, Some, List, [], ◌∷◌, length, refl, ap, ◌∙◌, arith, suc, zero}
use Rattle.std.proofs.Math.Nat.{pow-suc}
use Rattle.std.proofs.lemmas.Bool.{and_from, cond-true, eq-eqb, le-leb}
use Rattle.std.proofs.lemmas.Bool.Decides.{nat_tests}
use Rattle.std.proofs.lemmas.Fmt.{decimal_is_IsNumeral_wide, length-decimal-le_wide}
use Rattle.std.proofs.lemmas.Int.Digits.{digits_value_push}
use Rattle.std.proofs.lemmas.List.{length_push}
use Rattle.std.proofs.lemmas.List.Folds.{list_all-append}
use Rattle.std.proofs.lemmas.Str.Parse.{digit_from_value}
use Rattle.std.specs.Char.{is_ascii_digit, digit_value}
use Rattle.std.specs.Fmt.{decimal}
use Rattle.std.specs.List.{list_all}
use Rattle.std.specs.Prelude.{nat_le}
use Rattle.std.specs.Str.Parse.{digits_value, AllDigits}
use Rattle.audit_base.specs.Digits.{fixed_digits, is_digits, digits_form, is_digits_between, digits_between}
use Rattle.audit_base.proofs.DigitLemmas.{digit_value_is}

-- the code of a digit
pub digit_is : (d : ℕ) → d < 10 → is_ascii_digit (48 + d) ≡ true
digit_is d below = grind (arith, nat_tests)

-- as many digits as were asked for
pub length-fixed_digits : (width number : ℕ) → length (fixed_digits width number) ≡ width
unfolding fixed_digits
length-fixed_digits zero number = refl
length-fixed_digits (suc width) number =
    omega (arith, length_push (fixed_digits width (number / 10)) (48 + number % 10), length-fixed_digits width (number / 10))

-- each of them is a digit
pub fixed_digits_are : (width number : ℕ) → list_all is_ascii_digit (fixed_digits width number) ≡ true
unfolding fixed_digits
fixed_digits_are zero number = refl
fixed_digits_are (suc width) number =
    list_all-append is_ascii_digit (fixed_digits width (number / 10)) ((48 + number % 10) ∷ [])
    ∙ and_from _ _ (fixed_digits_are width (number / 10)) (and_from _ _ (digit_is (number % 10) (omega arith)) refl)

-- a number that has room is what its digits write
pub fixed_digits_value : (width number : ℕ) → number < 10 ^ width → digits_value 10 (fixed_digits width number) ≡ number
unfolding fixed_digits
fixed_digits_value zero number below = omega arith
fixed_digits_value (suc width) number below =
    let more : 10 ^ suc width ≡ 10 ^ width * 10 = pow-suc 10 width in
    let front : number / 10 < 10 ^ width = omega arith in
    let value = fixed_digits_value width (number / 10) front in
    let last : digit_value (48 + number % 10) ≡ 48 + number % 10 - 48 = digit_value_is (48 + number % 10) (omega arith) (omega arith) in
    digits_value_push 10 (fixed_digits width (number / 10)) (48 + number % 10) ∙ omega arith

-- a number in range is read again from its digits
pub fixed_digits_between : (width low high number : ℕ) → low ≤ number → number ≤ high → number < 10 ^ width → digits_between width low high (fixed_digits width number) ≡ Some number
fixed_digits_between width low high number above within below =
    let text = fixed_digits width number in
    let value : digits_value 10 text ≡ number = fixed_digits_value width number below in
    let least : nat_le low (digits_value 10 text) ≡ true = le-leb low (digits_value 10 text) (omega arith) in
    let most : nat_le (digits_value 10 text) high ≡ true = le-leb (digits_value 10 text) high (omega arith) in
    let all : is_digits_between width low high text ≡ true =
    and_from _ _ (and_from _ _ (and_from _ _ (eq-eqb (length text) width (length-fixed_digits width number)) (fixed_digits_are width number)) least) most in
    cond-true _ _ _ all ∙ ap Some value

-- so are digits that no range bounds
pub fixed_digits_form : (width most number : ℕ) → 1 ≤ width → width ≤ most → number < 10 ^ width → digits_form most (fixed_digits width number) ≡ Some number
fixed_digits_form width most number some few below =
    let text = fixed_digits width number in
    let size : length text ≡ width = length-fixed_digits width number in
    let all : is_digits 1 most text ≡ true =
    and_from _ _ (and_from _ _ (le-leb 1 (length text) (omega arith)) (le-leb (length text) most (omega arith))) (fixed_digits_are width number) in
    cond-true _ _ _ all ∙ ap Some (fixed_digits_value width number below)

-- the value of a byte below ten is that of a digit
all_digits_are : (text : List ℕ) → AllDigits 10 text → list_all is_ascii_digit text ≡ true
all_digits_are [] are = refl
all_digits_are (c ∷ text) are =
    let range = digit_from_value c are.0 in
    and_from _ _ (and_from _ _ (le-leb 48 c range.0) (le-leb c 57 range.1)) (all_digits_are text are.1)

-- a number is written in digits
pub decimal_digits : (number : ℕ) → number < 10 ^ 64 → list_all is_ascii_digit (decimal number) ≡ true
decimal_digits number below = all_digits_are (decimal number) (decimal_is_IsNumeral_wide number below).0.1

-- a number is read again from its text
pub decimal_form : (most number : ℕ) → 1 ≤ most → number < 10 ^ most → number < 10 ^ 64 → digits_form most (decimal number) ≡ Some number
decimal_form most number some room below =
    let numeral = decimal_is_IsNumeral_wide number below in
    let few : length (decimal number) ≤ most = length-decimal-le_wide most number some room below in
    let all : is_digits 1 most (decimal number) ≡ true =
    and_from _ _ (and_from _ _ (le-leb 1 (length (decimal number)) (omega (arith, numeral.0.0))) (le-leb (length (decimal number)) most few)) (decimal_digits number below) in
    cond-true _ _ _ all ∙ ap Some numeral.1
