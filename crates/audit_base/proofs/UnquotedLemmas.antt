-- What the writers write can be put between the commas of a line.
use Rattle.std.proofs.Common.{◌≡◌, ℕ, true, ◌%◌, ◌/◌, ◌^◌, ◌<◌, ◌≤◌, List, [], ◌∷◌, refl, ◌∙◌, arith, suc, zero}
use Rattle.std.proofs.lemmas.Bool.{and_from, cond_both}
use Rattle.std.proofs.lemmas.Bool.Decides.{nat_tests}
use Rattle.std.proofs.lemmas.List.Folds.{list_all-append}
use Rattle.std.specs.Char.{is_ascii_digit}
use Rattle.std.specs.Cmp.{first_so, second_so}
use Rattle.std.specs.Fmt.{decimal}
use Rattle.std.specs.List.{list_all}
use Rattle.std.specs.Prelude.{◌==◌}
use Rattle.audit_base.specs.Digits.{fixed_digits, fraction_digits}
use Rattle.audit_base.specs.Moments.{Moment}
use Rattle.audit_base.specs.Names.{is_name_byte}
use Rattle.audit_base.specs.Numbers.{point_and_digits, price_end, price_text}
use Rattle.audit_base.specs.Stamps.{nano_text, stamp_text}
use Rattle.audit_base.proofs.DigitLemmas.{digit_bounds}
use Rattle.audit_base.proofs.WrittenDigits.{fixed_digits_are, decimal_digits}

-- a digit is a byte that a name may hold
digit_is_unquoted : (c : ℕ) → 48 ≤ c → c ≤ 57 → is_name_byte c ≡ true
digit_is_unquoted c low high = grind (arith, nat_tests)

-- so are all digits
pub digits_are_unquoted : (text : List ℕ) → list_all is_ascii_digit text ≡ true → list_all is_name_byte text ≡ true
digits_are_unquoted [] are = refl
digits_are_unquoted (c ∷ text) are =
    let bounds = digit_bounds c (first_so (is_ascii_digit c) (list_all is_ascii_digit text) are) in
    and_from _ _ (digit_is_unquoted c bounds.0 bounds.1) (digits_are_unquoted text (second_so (is_ascii_digit c) (list_all is_ascii_digit text) are))

-- digits of a width
pub fixed_digits_are_unquoted : (width number : ℕ) → list_all is_name_byte (fixed_digits width number) ≡ true
fixed_digits_are_unquoted width number = digits_are_unquoted (fixed_digits width number) (fixed_digits_are width number)

-- a fraction of a second
nano_is_unquoted : (nano : ℕ) → list_all is_name_byte (nano_text nano) ≡ true
nano_is_unquoted nano =
    let P : List ℕ → Type 0 = λ text. list_all is_name_byte text ≡ true in
    cond_both (nano == 0) _ _ P (λ _. refl) (λ _.
    cond_both (nano % 10 ^ 6 == 0) _ _ P (λ _. fixed_digits_are_unquoted 3 (nano / 10 ^ 6)) (λ _.
    cond_both (nano % 10 ^ 3 == 0) _ _ P (λ _. fixed_digits_are_unquoted 6 (nano / 10 ^ 3)) (λ _.
    fixed_digits_are_unquoted 9 nano)))

-- a number
pub decimal_is_unquoted : (number : ℕ) → number < 10 ^ 64 → list_all is_name_byte (decimal number) ≡ true
decimal_is_unquoted number below = digits_are_unquoted (decimal number) (decimal_digits number below)

-- a fraction of a price
fraction_is_unquoted : (places number : ℕ) → list_all is_name_byte (fraction_digits places number) ≡ true
unfolding fraction_digits
fraction_is_unquoted zero number = refl
fraction_is_unquoted (suc places) number =
    let P : List ℕ → Type 0 = λ text. list_all is_name_byte text ≡ true in
    cond_both (number % 10 == 0) _ _ P (λ _. fraction_is_unquoted places (number / 10)) (λ _. fixed_digits_are_unquoted (suc places) number)

-- a point before unquoted digits
after_point_is_unquoted : (digits : List ℕ) → list_all is_name_byte digits ≡ true → list_all is_name_byte (point_and_digits digits) ≡ true
after_point_is_unquoted [] are = refl
after_point_is_unquoted (digit ∷ digits) are = are

-- a price
pub price_is_unquoted : (units : ℕ) → units ≤ price_end → list_all is_name_byte (price_text units) ≡ true
price_is_unquoted units below =
    list_all-append is_name_byte (decimal (units / 10 ^ 8)) (point_and_digits (fraction_digits 8 (units % 10 ^ 8)))
    ∙ and_from _ _ (decimal_is_unquoted (units / 10 ^ 8) (omega arith)) (after_point_is_unquoted (fraction_digits 8 (units % 10 ^ 8)) (fraction_is_unquoted 8 (units % 10 ^ 8)))

-- a point in time
pub stamp_is_unquoted : (stamp : Moment) → list_all is_name_byte (stamp_text stamp) ≡ true
stamp_is_unquoted stamp = simp (list_all-append, fixed_digits_are_unquoted, nano_is_unquoted)
