-- The written points in time are read again.
use Rattle.std.proofs.Common.{◌≡◌, ℕ, true, ◌+◌, ◌-◌, ◌*◌, ◌/◌, ◌%◌, ◌^◌, ◌<◌, ◌≤◌, Some, List, [], ◌∷◌, ◌++◌, length, take, drop, refl, ap, ◌∙◌, sym, arith}
use Rattle.std.proofs.lemmas.Bool.{and_from, cond-true, cond_both, eq-eqb, eqb-true, le-leb}
use Rattle.std.proofs.lemmas.List.{take_at, drop_at, length-append, length_push, get_or_at, append_assoc}
use Rattle.std.specs.Prelude.{◌==◌, ◌||◌, nat_le, slice_index}
use Rattle.audit_base.specs.Digits.{fixed_digits, digits_form}
use Rattle.audit_base.specs.Moments.{Moment}
use Rattle.audit_base.specs.Stamps.{day_of, date_form, date_text, second_of, clock_form, clock_text, nano_of_fraction, fraction_of, fraction_form, nano_text, moment_of, stamp_form, stamp_text}
use Rattle.audit_base.proofs.WrittenDigits.{fixed_digits_between, fixed_digits_form, length-fixed_digits}

-- a day is read again from its date
pub date_again : (day : ℕ) → day < 3720000 → date_form (date_text day) ≡ Some day
unfolding fixed_digits
date_again day below =
    let year = fixed_digits_between 4 0 9999 (day / 31 / 12) (omega arith) (omega arith) (omega arith) in
    let month = fixed_digits_between 2 1 12 (day / 31 % 12 + 1) (omega arith) (omega arith) (omega arith) in
    let date = fixed_digits_between 2 1 31 (day % 31 + 1) (omega arith) (omega arith) (omega arith) in
    let same : (day / 31 / 12 * 12 + (day / 31 % 12 + 1 - 1)) * 31 + (day % 31 + 1 - 1) ≡ day = omega arith in
    (λ i. day_of (year i) (month i) (date i)) ∙ ap Some same

-- a second of a day is read again from its clock
pub clock_again : (second : ℕ) → second < 87840 → clock_form (clock_text second) ≡ Some second
unfolding fixed_digits
clock_again second below =
    let hours = fixed_digits_between 2 0 23 (second / 61 / 60) (omega arith) (omega arith) (omega arith) in
    let minutes = fixed_digits_between 2 0 59 (second / 61 % 60) (omega arith) (omega arith) (omega arith) in
    let seconds = fixed_digits_between 2 0 60 (second % 61) (omega arith) (omega arith) (omega arith) in
    let same : (second / 61 / 60 * 60 + second / 61 % 60) * 61 + second % 61 ≡ second = omega arith in
    (λ i. second_of (hours i) (minutes i) (seconds i)) ∙ ap Some same

-- a fraction of three, six or nine digits is read as nanoseconds
pub fraction_again : (width number : ℕ) → (width == 3 || width == 6 || width == 9) ≡ true → 1 ≤ width → width ≤ 9 → number < 10 ^ width → fraction_of (fixed_digits width number) ≡ Some (number * 10 ^ (9 - width))
fraction_again width number listed some few below =
    let size : length (fixed_digits width number) ≡ width = length-fixed_digits width number in
    let form : digits_form 9 (fixed_digits width number) ≡ Some number = fixed_digits_form width 9 number some few below in
    let fits : (length (fixed_digits width number) == 3 || length (fixed_digits width number) == 6 || length (fixed_digits width number) == 9) ≡ true = rw size listed in
    cond-true _ _ _ fits ∙ (λ i. nano_of_fraction (size i) (form i))

-- whole thousandths of a second
thousandths : (nano : ℕ) → nano % 10 ^ 6 ≡ 0 → nano < 10 ^ 9 → fraction_form (46 ∷ fixed_digits 3 (nano / 10 ^ 6)) ≡ Some nano
thousandths nano whole below =
    let same : nano / 10 ^ 6 * 10 ^ (9 - 3) ≡ nano = omega arith in
    fraction_again 3 (nano / 10 ^ 6) refl (omega arith) (omega arith) (omega arith) ∙ ap Some same

-- whole millionths of a second
millionths : (nano : ℕ) → nano % 10 ^ 3 ≡ 0 → nano < 10 ^ 9 → fraction_form (46 ∷ fixed_digits 6 (nano / 10 ^ 3)) ≡ Some nano
millionths nano whole below =
    let same : nano / 10 ^ 3 * 10 ^ (9 - 6) ≡ nano = omega arith in
    fraction_again 6 (nano / 10 ^ 3) refl (omega arith) (omega arith) (omega arith) ∙ ap Some same

-- a fraction of a second is read again from its text
pub nano_again : (nano : ℕ) → nano < 10 ^ 9 → fraction_form (nano_text nano) ≡ Some nano
nano_again nano below =
    let P : List ℕ → Type 0 = λ text. fraction_form text ≡ Some nano in
    let nine = fraction_again 9 nano refl (omega arith) (omega arith) below in
    let same : nano * 10 ^ (9 - 9) ≡ nano = omega arith in
    cond_both (nano == 0) _ _ P (λ none. ap Some (sym (eqb-true nano 0 none))) (λ _.
    cond_both (nano % 10 ^ 6 == 0) _ _ P (λ milli. thousandths nano (eqb-true (nano % 10 ^ 6) 0 milli) below) (λ _.
    cond_both (nano % 10 ^ 3 == 0) _ _ P (λ micro. millionths nano (eqb-true (nano % 10 ^ 3) 0 micro) below) (λ _.
    nine ∙ ap Some same)))

-- a point in time is read from its parts
pub parts_read : (date clock nano : List ℕ) → length date ≡ 8 → length clock ≡ 8 → stamp_form (date ++ 45 ∷ clock ++ nano) ≡ moment_of (date_form date) (clock_form clock) (fraction_form nano)
parts_read date clock nano eight eight' =
    let text = date ++ 45 ∷ clock ++ nano in
    let dashed : text ≡ date ++ 45 ∷ (clock ++ nano) = append_assoc date (45 ∷ clock) nano in
    let apart : text ≡ (date ++ 45 ∷ []) ++ (clock ++ nano) = dashed ∙ sym (append_assoc date (45 ∷ []) (clock ++ nano)) in
    let first : take 8 text ≡ date = ap (take 8) dashed ∙ take_at date (45 ∷ (clock ++ nano)) 8 eight in
    let after : drop 9 text ≡ clock ++ nano = ap (drop 9) apart ∙ drop_at (date ++ 45 ∷ []) (clock ++ nano) 9 (omega (arith, length_push date 45)) in
    let second : take 8 (drop 9 text) ≡ clock = ap (take 8) after ∙ take_at clock nano 8 eight' in
    let front : length (date ++ 45 ∷ clock) ≡ 17 = omega (arith, length-append date (45 ∷ clock)) in
    let third : drop 17 text ≡ nano = drop_at (date ++ 45 ∷ clock) nano 17 front in
    let long : nat_le 17 (length text) ≡ true = le-leb 17 (length text) (omega (arith, length-append (date ++ 45 ∷ clock) nano)) in
    let at : slice_index text 8 ≡ 45 = ap (λ (t : List ℕ). slice_index t 8) dashed ∙ get_or_at date 45 (clock ++ nano) 0 8 eight in
    let dash : (slice_index text 8 == 45) ≡ true = eq-eqb (slice_index text 8) 45 at in
    cond-true _ _ _ (and_from _ _ long dash) ∙ (λ i. moment_of (date_form (first i)) (clock_form (second i)) (fraction_form (third i)))

-- a date has eight bytes
pub length-date_text : (day : ℕ) → length (date_text day) ≡ 8
unfolding fixed_digits
length-date_text day = refl

-- a clock has eight bytes
pub length-clock_text : (second : ℕ) → length (clock_text second) ≡ 8
unfolding fixed_digits
length-clock_text second = refl

-- a point in time is read again from its text
pub stamp_again : (stamp : Moment) → stamp.second < 326764800000 → stamp.nano < 10 ^ 9 → stamp_form (stamp_text stamp) ≡ Some stamp
stamp_again stamp second nano =
    let day = stamp.second / (24 * 60 * 61) in
    let clock = stamp.second % (24 * 60 * 61) in
    let date' = date_again day (omega arith) in
    let clock' = clock_again clock (omega arith) in
    let nano' = nano_again stamp.nano nano in
    let same : day * (24 * 60 * 61) + clock ≡ stamp.second = omega arith in
    parts_read (date_text day) (clock_text clock) (nano_text stamp.nano) (length-date_text day) (length-clock_text clock)
    ∙ (λ i. moment_of (date' i) (clock' i) (nano' i))
    ∙ (λ i. Some (record { second = same i; nano = stamp.nano }))
