-- Facts about runs of digits.
use Rattle.std.proofs.Common.{◌≡◌, ℕ, true, ◌+◌, ◌-◌, ◌*◌, ◌^◌, ◌<◌, ◌≤◌, List, [], ◌∷◌, length, get_or, arith, suc, zero, lit<, pow-add, ap, sym, ◌∙◌, ◌++◌, ◌/◌, ◌%◌, refl}
use Rattle.std.proofs.Math.Nat.{pow-le-pow_right, mul-lt-mul_of_pos_right, one-le-pow}
use Rattle.std.proofs.lemmas.Bool.{cond-true, cond-false, eq-eqb, ne_eqb}
use Rattle.std.proofs.lemmas.Bool.Decides.{nat_tests}
use Rattle.std.specs.Char.{is_ascii_digit, digit_value}
use Rattle.std.specs.Cmp.{first_so, second_so}
use Rattle.std.specs.List.{list_all}
use Rattle.audit_base.specs.Digits.{fixed_digits, fraction_digits}

-- a digit's code is from 48 to 57
pub digit_bounds : (c : ℕ) → is_ascii_digit c ≡ true → (48 ≤ c) × (c ≤ 57)
digit_bounds c is = (grind (arith, nat_tests), grind (arith, nat_tests))

-- what a digit counts
pub digit_value_is : (c : ℕ) → 48 ≤ c → c ≤ 57 → digit_value c ≡ c - 48
digit_value_is c low high = grind (arith, nat_tests)

-- each byte of a run of digits is a digit
pub digit_at : (text : List ℕ) (i : ℕ) → i < length text → list_all is_ascii_digit text ≡ true → (48 ≤ get_or text i 0) × (get_or text i 0 ≤ 57)
digit_at (c ∷ text) zero within are = digit_bounds c (first_so (is_ascii_digit c) (list_all is_ascii_digit text) are)
digit_at (c ∷ text) (suc i) within are = digit_at text i (omega arith) (second_so (is_ascii_digit c) (list_all is_ascii_digit text) are)
digit_at [] i within are = absurd (omega arith)

-- nineteen digits fit 64 bits
pub ten_times : (value i : ℕ) → value < 10 ^ i → i < 19 → value * 10 + 9 < 2 ^ 64
ten_times value i below few =
    let few' : i ≤ 18 = omega arith in
    let most : 10 ^ i ≤ 10 ^ 18 = pow-le-pow_right {n = 10} (lit< tt) few' in omega arith

-- one more digit
pub ten_more : (value digit i : ℕ) → value < 10 ^ i → digit ≤ 9 → value * 10 + digit < 10 ^ (i + 1)
ten_more value digit i below few =
    let e : 10 ^ (i + 1) ≡ 10 ^ i * 10 = pow-add 10 i 1 in rw e (omega arith)

-- the last digit of a number comes last
pub fixed_digits_last : (width number : ℕ) → 0 < width → fixed_digits width number ≡ fixed_digits (width - 1) (number / 10) ++ (48 + number % 10) ∷ []
unfolding fixed_digits
fixed_digits_last zero number some = absurd (omega arith)
fixed_digits_last (suc width) number some =
    let e : suc width - 1 ≡ width = omega arith in rw e refl

-- no digits
pub fixed_digits_none : (width number : ℕ) → width ≤ 0 → fixed_digits width number ≡ []
unfolding fixed_digits
fixed_digits_none zero number none = refl
fixed_digits_none (suc width) number none = absurd (omega arith)

-- a zero at the end of a fraction is not written
pub fraction_digits_zero : (places number : ℕ) → 0 < places → number % 10 ≡ 0 → fraction_digits places number ≡ fraction_digits (places - 1) (number / 10)
unfolding fraction_digits
fraction_digits_zero zero number some ends = absurd (omega arith)
fraction_digits_zero (suc places) number some ends =
    let e : suc places - 1 ≡ places = omega arith in
    cond-true _ _ _ (eq-eqb (number % 10) 0 ends) ∙ (λ i. fraction_digits (sym e i) (number / 10))

-- a fraction with another digit at its end is written whole
pub fraction_digits_other : (places number : ℕ) → 0 < places → (number % 10 ≡ 0 → ⊥) → fraction_digits places number ≡ fixed_digits places number
unfolding fraction_digits
fraction_digits_other zero number some ends = absurd (omega arith)
fraction_digits_other (suc places) number some ends = cond-false _ _ _ (ne_eqb (number % 10) 0 ends)

-- no places
pub fraction_digits_none : (places number : ℕ) → places ≤ 0 → fraction_digits places number ≡ []
unfolding fraction_digits
fraction_digits_none zero number none = refl
fraction_digits_none (suc places) number none = absurd (omega arith)

-- a fraction of fewer places is still less than one
pub scaled_fraction : (fraction places most : ℕ) → fraction < 10 ^ places → places ≤ most → fraction * 10 ^ (most - places) < 10 ^ most
scaled_fraction fraction places most below few =
    let e : 10 ^ most ≡ 10 ^ places * 10 ^ (most - places) =
    (let sum : places + (most - places) ≡ most = omega arith in ap (λ (k : ℕ). 10 ^ k) (sym sum) ∙ pow-add 10 places (most - places)) in
    rw e (mul-lt-mul_of_pos_right below (one-le-pow (most - places) 10 (lit< tt)))

-- up to 18 places fit 64 bits
pub power_fits : (k most : ℕ) → k ≤ most → most ≤ 18 → 10 ^ k < 2 ^ 64
power_fits k most le few =
    let le' : k ≤ 18 = omega arith in
    let top : 10 ^ k ≤ 10 ^ 18 = pow-le-pow_right {n = 10} (lit< tt) le' in omega arith
