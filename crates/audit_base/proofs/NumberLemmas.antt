-- The written prices and quantities are read again.
use Rattle.std.proofs.Common.{◌≡◌, ℕ, true, false, ◌+◌, ◌-◌, ◌*◌, ◌/◌, ◌%◌, ◌^◌, ◌<◌, ◌≤◌, inl, inr, Some, None, List, [], ◌∷◌, ◌++◌, length, take, drop, refl, ap, ◌∙◌, sym, arith, suc, zero}
use Rattle.std.proofs.Math.Nat.{pow-suc, mul_assoc}
use Rattle.std.proofs.Math.Seq.{take-append_seam, drop-append-add}
use Rattle.std.proofs.lemmas.Bool.{cases_Bool, cases_eq, cond-true, cond-false, cond_both, eqb-true, ne_eqb, lt-ltb, le-ltb, leb-true, ltb-true, le-leb, and_parts, and_from}
use Rattle.std.proofs.lemmas.List.{append-nil, length-append}
use Rattle.std.specs.Char.{is_ascii_digit}
use Rattle.std.specs.Cmp.{first_so, second_so}
use Rattle.std.specs.Fmt.{decimal}
use Rattle.std.specs.List.{list_all, position, position_or_len}
use Rattle.std.specs.Prelude.{◌==◌, ◌&&◌, nat_lt, nat_le}
use Rattle.audit_base.specs.Digits.{fixed_digits, fraction_digits, is_digits, digits_form}
use Rattle.audit_base.specs.Numbers.{greatest_quantity, IsQuantity, IsPrice, is_point, whole_price, price_with_fraction, price_by_point, price_form, is_quantity, quantity_in_range, quantity_by_point, quantity_form, point_and_digits, price_text}
use Rattle.audit_base.proofs.DigitLemmas.{digit_bounds}
use Rattle.audit_base.proofs.WrittenDigits.{decimal_digits, decimal_form, length-fixed_digits, fixed_digits_form}

-- zero has no digits after the point
pub no_fraction_digits : (places : ℕ) → fraction_digits places 0 ≡ []
unfolding fraction_digits
no_fraction_digits zero = refl
no_fraction_digits (suc places) = no_fraction_digits places

-- digits that write a fraction of this many places
pub record IsFraction (places number : ℕ) (digits : List ℕ) : Type 0 where
  pub width : ℕ
  pub value : ℕ
  pub some : 1 ≤ width
  pub few : width ≤ places
  pub below : value < 10 ^ width
  pub text : digits ≡ fixed_digits width value
  pub scaled : value * 10 ^ (places - width) ≡ number

-- one more place, for a number that ends in zero
fraction_more : (places number : ℕ) (digits : List ℕ) → number % 10 ≡ 0 → IsFraction places (number / 10) digits → IsFraction (suc places) number digits
fraction_more places number digits whole is =
    let power : 10 ^ (suc places - is.width) ≡ 10 ^ (places - is.width) * 10 =
    (let more : suc places - is.width ≡ suc (places - is.width) = omega (arith, is.few) in ap (λ (k : ℕ). 10 ^ k) more ∙ pow-suc 10 (places - is.width)) in
    let factor : is.value * 10 ^ (suc places - is.width) ≡ is.value * 10 ^ (places - is.width) * 10 =
    ap (λ (k : ℕ). is.value * k) power ∙ sym (mul_assoc is.value (10 ^ (places - is.width)) 10) in
    record {
      width = is.width;
      value = is.value;
      some = is.some;
      few = omega (arith, is.few);
      below = is.below;
      text = is.text;
      scaled = omega (arith, factor, is.scaled);
    }

-- a number that ends in another digit is written whole
fraction_whole : (places number : ℕ) → 1 ≤ places → number < 10 ^ places → IsFraction places number (fixed_digits places number)
fraction_whole places number some below =
    let none : places - places ≡ 0 = omega arith in
    record {
      width = places;
      value = number;
      some = some;
      few = omega arith;
      below = below;
      text = refl;
      scaled = rw none (omega arith);
    }

-- a fraction that isn't zero is what its digits write
pub fraction_digits_write : (places number : ℕ) → 0 < number → number < 10 ^ places → IsFraction places number (fraction_digits places number)
unfolding fraction_digits
fraction_digits_write zero number some below = absurd (omega arith)
fraction_digits_write (suc places) number some below =
    let more : 10 ^ suc places ≡ 10 ^ places * 10 = pow-suc 10 places in
    let P : List ℕ → Type 0 = IsFraction (suc places) number in
    cond_both (number % 10 == 0) _ _ P
    (λ ends. let whole : number % 10 ≡ 0 = eqb-true (number % 10) 0 ends in
    fraction_more places number (fraction_digits places (number / 10)) whole (fraction_digits_write places (number / 10) (omega arith) (omega arith)))
    (λ _. fraction_whole (suc places) number (omega arith) below)

-- a point is before the digits of a fraction
after_some : (digits : List ℕ) → 1 ≤ length digits → point_and_digits digits ≡ 46 ∷ digits
after_some [] some = absurd (omega arith)
after_some (digit ∷ digits) some = refl

-- a point is before the fraction of a price
pub point_before : (places number : ℕ) → 0 < number → number < 10 ^ places → point_and_digits (fraction_digits places number) ≡ 46 ∷ fraction_digits places number
point_before places number some below =
    let is = fraction_digits_write places number some below in
    let size : length (fraction_digits places number) ≡ is.width = ap length is.text ∙ length-fixed_digits is.width is.value in
    after_some (fraction_digits places number) (omega (arith, is.some))

-- a digit is no point
not_point : (c : ℕ) → is_ascii_digit c ≡ true → is_point c ≡ false
not_point c is =
    let bounds = digit_bounds c is in
    ne_eqb c 46 (λ e. omega arith)

-- no digit is a point
no_point : (text : List ℕ) → list_all is_ascii_digit text ≡ true → position_or_len is_point text ≡ length text
no_point [] are = refl
no_point (c ∷ text) are =
    let first = not_point c (first_so (is_ascii_digit c) (list_all is_ascii_digit text) are) in
    let rest = no_point text (second_so (is_ascii_digit c) (list_all is_ascii_digit text) are) in
    rw first (omega (arith, rest))

-- the first point is after the digits
first_point : (text rest : List ℕ) → list_all is_ascii_digit text ≡ true → position_or_len is_point (text ++ 46 ∷ rest) ≡ length text
first_point [] rest are = refl
first_point (c ∷ text) rest are =
    let first = not_point c (first_so (is_ascii_digit c) (list_all is_ascii_digit text) are) in
    let more = first_point text rest (second_so (is_ascii_digit c) (list_all is_ascii_digit text) are) in
    rw first (omega (arith, more))

-- digits alone have no point
pub position_none : (text : List ℕ) → list_all is_ascii_digit text ≡ true → position is_point text ≡ None
position_none text are =
    let past : nat_lt (position_or_len is_point text) (length text) ≡ false = le-ltb (position_or_len is_point text) (length text) (omega (arith, no_point text are)) in
    cond-false _ _ _ past

-- what is read as a number is digits alone
digits_are : (most : ℕ) (text : List ℕ) (value : ℕ) → digits_form most text ≡ Some value → list_all is_ascii_digit text ≡ true
digits_are most text value is = elim (cases_Bool (is_digits 1 most text)) [
  | inl are ↦ second_so (nat_le 1 (length text) && nat_le (length text) most) (list_all is_ascii_digit text) are
  | inr other ↦
      let none : digits_form most text ≡ None = cond-false _ _ _ other in absurd (cc (is, none))
]

-- digits alone are a quantity by their number
pub whole_quantity : (text : List ℕ) (value : ℕ) → digits_form 13 text ≡ Some value → quantity_form text ≡ quantity_in_range (Some value)
whole_quantity text value is =
    ap (quantity_by_point text) (position_none text (digits_are 13 text value is)) ∙ ap quantity_in_range is

-- where the point is
pub position_some : (text rest : List ℕ) → list_all is_ascii_digit text ≡ true → position is_point (text ++ 46 ∷ rest) ≡ Some (length text)
position_some text rest are =
    let at : position_or_len is_point (text ++ 46 ∷ rest) ≡ length text = first_point text rest are in
    let within : nat_lt (position_or_len is_point (text ++ 46 ∷ rest)) (length (text ++ 46 ∷ rest)) ≡ true =
    lt-ltb (position_or_len is_point (text ++ 46 ∷ rest)) (length (text ++ 46 ∷ rest)) (omega (arith, length-append text (46 ∷ rest))) in
    cond-true _ _ _ within ∙ ap Some at

-- a whole price is read again
whole_again : (whole : ℕ) → whole < 10 ^ 10 → price_form (decimal whole) ≡ Some (whole * 10 ^ 8)
whole_again whole below =
    let small : whole < 10 ^ 64 = omega arith in
    let at = position_none (decimal whole) (decimal_digits whole small) in
    let form = decimal_form 10 whole (omega arith) below small in
    (λ i. price_by_point (decimal whole) (at i)) ∙ (λ i. whole_price (form i))

-- a price with a fraction is read again
split_again : (whole fraction : ℕ) (digits : List ℕ) → whole < 10 ^ 10 → IsFraction 8 fraction digits → price_form (decimal whole ++ 46 ∷ digits) ≡ Some (whole * 10 ^ 8 + fraction)
split_again whole fraction digits below is =
    let small : whole < 10 ^ 64 = omega arith in
    let text = decimal whole ++ 46 ∷ digits in
    let at = position_some (decimal whole) digits (decimal_digits whole small) in
    let front : take (length (decimal whole)) text ≡ decimal whole = take-append_seam (decimal whole) (46 ∷ digits) in
    let back : drop (length (decimal whole) + 1) text ≡ digits = drop-append-add (decimal whole) (46 ∷ digits) 1 in
    let size : length digits ≡ is.width = ap length is.text ∙ length-fixed_digits is.width is.value in
    let form = decimal_form 10 whole (omega arith) below small in
    let form' : digits_form 8 digits ≡ Some is.value = ap (digits_form 8) is.text ∙ fixed_digits_form is.width 8 is.value is.some is.few is.below in
    (λ i. price_by_point text (at i))
    ∙ (λ i. price_with_fraction (digits_form 10 (front i)) (length (back i)) (digits_form 8 (back i)))
    ∙ (λ i. price_with_fraction (form i) (size i) (form' i))
    ∙ ap (λ (f : ℕ). Some (whole * 10 ^ 8 + f)) is.scaled

-- a price is read again from its text
pub price_again : (units : ℕ) → IsPrice units → price_form (price_text units) ≡ Some units
price_again units below =
    let whole = units / 10 ^ 8 in
    let fraction = units % 10 ^ 8 in
    let room : whole < 10 ^ 10 = omega arith in
    elim (cases_eq fraction 0) as (λ _. price_form (price_text units) ≡ Some units) [
      | inl none ↦ (
          let same : whole * 10 ^ 8 ≡ units = omega arith in
          let text : price_text units ≡ decimal whole = ap (λ (f : ℕ). decimal whole ++ point_and_digits (fraction_digits 8 f)) none ∙ ap (λ (t : List ℕ). decimal whole ++ point_and_digits t) (no_fraction_digits 8) ∙ append-nil (decimal whole) in
          ap price_form text ∙ whole_again whole room ∙ ap Some same)
      | inr some ↦ (
          let positive : 0 < fraction = omega (arith, some) in
          let less : fraction < 10 ^ 8 = omega arith in
          let same : whole * 10 ^ 8 + fraction ≡ units = omega arith in
          let text : price_text units ≡ decimal whole ++ 46 ∷ fraction_digits 8 fraction = ap (λ (t : List ℕ). decimal whole ++ t) (point_before 8 fraction positive less) in
          ap price_form text ∙ split_again whole fraction (fraction_digits 8 fraction) room (fraction_digits_write 8 fraction positive less) ∙ ap Some same)
    ]

-- the test says that it is a quantity, and the other way round
pub test-quantity : (quantity : ℕ) → is_quantity quantity ≡ true → IsQuantity quantity
test-quantity quantity is =
    let parts = and_parts (nat_lt 0 quantity) (nat_le quantity greatest_quantity) is in
    record { some = ltb-true _ _ parts.0; most = leb-true _ _ parts.1 }

pub quantity-test : (quantity : ℕ) → IsQuantity quantity → is_quantity quantity ≡ true
quantity-test quantity is = and_from _ _ (lt-ltb 0 quantity is.some) (le-leb quantity greatest_quantity is.most)

-- a quantity is read again from its text
pub quantity_again : (number : ℕ) → IsQuantity number → quantity_form (decimal number) ≡ Some number
quantity_again number is =
    let most = is.most in
    let small : number < 10 ^ 64 = omega arith in
    let at = position_none (decimal number) (decimal_digits number small) in
    let form = decimal_form 13 number (omega arith) (omega arith) small in
    (λ i. quantity_by_point (decimal number) (at i)) ∙ (λ i. quantity_in_range (form i)) ∙ cond-true _ _ _ (quantity-test number is)
