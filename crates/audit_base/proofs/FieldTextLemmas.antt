-- The canonical texts are in the form of names.
use Rattle.std.proofs.Common.{◌≡◌, ℕ, zero, suc, ◌+◌, ◌*◌, ◌/◌, ◌%◌, ◌≤◌, ◌<◌, ◌^◌, true, ◌&&◌, ◌==◌, List, [], ◌∷◌, ◌++◌, length, arith}
use Rattle.std.specs.Prelude.{decimal, nat_le}
use Rattle.std.specs.List.{list_all}
use Rattle.std.proofs.lemmas.Bool.{and_from, cond_both, le-leb}
use Rattle.std.proofs.lemmas.Fmt.{decimal_is_IsNumeral, length-decimal-le}
use Rattle.std.proofs.lemmas.List.{length-append}
use Rattle.audit_base.specs.Digits.{fixed_digits, fraction_digits}
use Rattle.audit_base.specs.Moments.{Moment}
use Rattle.audit_base.specs.Names.{is_name, is_name_byte}
use Rattle.audit_base.specs.Numbers.{greatest_quantity, point_and_digits, price_end, price_text}
use Rattle.audit_base.specs.Stamps.{clock_text, date_text, nano_text, stamp_text}
use Rattle.audit_base.proofs.StampLemmas.{length-clock_text, length-date_text}
use Rattle.audit_base.proofs.UnquotedLemmas.{decimal_is_unquoted, price_is_unquoted, stamp_is_unquoted}
use Rattle.audit_base.proofs.WrittenDigits.{length-fixed_digits}

in-name : (value : List ℕ) → 1 ≤ length value → length value ≤ 64 → list_all is_name_byte value ≡ true → is_name value ≡ true
in-name value some most unquoted =
    and_from (nat_le 1 (length value) && nat_le (length value) 64) (list_all is_name_byte value)
    (and_from (nat_le 1 (length value)) (nat_le (length value) 64) (le-leb 1 (length value) some) (le-leb (length value) 64 most)) unquoted

length-nano : (nano : ℕ) → length (nano_text nano) ≤ 10
length-nano nano =
    let P : List ℕ → Type 0 = λ text. length text ≤ 10 in
    cond_both (nano == 0) _ _ P (λ _. omega arith) (λ _.
    cond_both (nano % 10 ^ 6 == 0) _ _ P (λ _. omega (arith, length-fixed_digits 3 (nano / 10 ^ 6))) (λ _.
    cond_both (nano % 10 ^ 3 == 0) _ _ P (λ _. omega (arith, length-fixed_digits 6 (nano / 10 ^ 3))) (λ _.
    omega (arith, length-fixed_digits 9 nano))))

length-stamp : (stamp : Moment) → (17 ≤ length (stamp_text stamp)) × (length (stamp_text stamp) ≤ 27)
unfolding fixed_digits
length-stamp stamp =
    let date = length-date_text (stamp.second / (24 * 60 * 61)) in
    let clock = length-clock_text (stamp.second % (24 * 60 * 61)) in
    let nano = length-nano stamp.nano in
    let day : List ℕ = date_text (stamp.second / (24 * 60 * 61)) in
    let time : List ℕ = clock_text (stamp.second % (24 * 60 * 61)) in
    let front : length (stamp_text stamp) ≡ length day + length ((45 ∷ time) ++ nano_text stamp.nano) = length-append day ((45 ∷ time) ++ nano_text stamp.nano) in
    let back = length-append (45 ∷ time) (nano_text stamp.nano) in
    (omega (arith, date, clock, nano, front, back), omega (arith, date, clock, nano, front, back))

pub stamp_is_name : (stamp : Moment) → is_name (stamp_text stamp) ≡ true
stamp_is_name stamp =
    let size = length-stamp stamp in
    in-name (stamp_text stamp) (omega (arith, size.0)) (omega (arith, size.1)) (stamp_is_unquoted stamp)

decimal-some : (number : ℕ) → number < 2 ^ 64 → 1 ≤ length (decimal number)
decimal-some number below = (decimal_is_IsNumeral number below).0.0

pub quantity_is_name : (quantity : ℕ) → quantity ≤ greatest_quantity → is_name (decimal quantity) ≡ true
quantity_is_name quantity most =
    let size = length-decimal-le 13 quantity (omega arith) (omega (arith, most)) (omega (arith, most)) in
    in-name (decimal quantity) (decimal-some quantity (omega (arith, most))) (omega (arith, size)) (decimal_is_unquoted quantity (omega (arith, most)))

length-fraction : (places number : ℕ) → length (fraction_digits places number) ≤ places
unfolding fraction_digits
length-fraction zero number = omega arith
length-fraction (suc places) number =
    let P : List ℕ → Type 0 = λ text. length text ≤ suc places in
    cond_both (number % 10 == 0) _ _ P (λ _. (let h = length-fraction places (number / 10) in omega (arith, h))) (λ _. omega (arith, length-fixed_digits (suc places) number))

length-after_point : (digits : List ℕ) → length (point_and_digits digits) ≤ 1 + length digits
length-after_point [] = omega arith
length-after_point (digit ∷ digits) = omega arith

pub price_is_name : (units : ℕ) → units ≤ price_end → is_name (price_text units) ≡ true
price_is_name units most =
    let whole : List ℕ = decimal (units / 10 ^ 8) in
    let fraction : List ℕ = fraction_digits 8 (units % 10 ^ 8) in
    let size = length-decimal-le 11 (units / 10 ^ 8) (omega arith) (omega (arith, most)) (omega (arith, most)) in
    let some = decimal-some (units / 10 ^ 8) (omega (arith, most)) in
    let after = length-after_point fraction in
    let few = length-fraction 8 (units % 10 ^ 8) in
    let all : length (price_text units) ≡ length whole + length (point_and_digits fraction) = length-append whole (point_and_digits fraction) in
    in-name (price_text units) (omega (arith, some, all)) (omega (arith, size, after, few, all)) (price_is_unquoted units most)
