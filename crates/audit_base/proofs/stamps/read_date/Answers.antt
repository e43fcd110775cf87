-- A date is eight digits, which are those of its year, its month and its day.
use Rattle.std.proofs.Common.{◌≡◌, ◌⊎◌, ℕ, Bool, true, false, ◌-◌, ◌&&◌, ◌++◌, nat_le, List, Option, Some, None, length, take, drop, refl, ap, sym, ◌∙◌, inl, inr}
use Rattle.std.proofs.lemmas.Bool.{cond-false}
use Rattle.std.proofs.lemmas.List.{take-append-drop, drop-drop, take_rest}
use Rattle.std.proofs.lemmas.List.Folds.{list_all-append}
use Rattle.std.specs.Char.{is_ascii_digit}
use Rattle.std.specs.Cmp.{second_so}
use Rattle.std.specs.List.{list_all}
use Rattle.std.specs.Prelude.{◌==◌}
use Rattle.std.specs.Str.Parse.{digits_value}
use Rattle.audit_base.specs.Digits.{digits_between}
use Rattle.audit_base.specs.Stamps.{day_of, date_form}
use Rattle.audit_base.proofs.stamps.read_date.Goals as goal

abbrev are_digits : List ℕ → Bool
are_digits text = list_all is_ascii_digit text

parts : (text : List ℕ) → take 4 text ++ (take 2 (drop 4 text) ++ drop 6 text) ≡ text
parts text =
    let later : take 2 (drop 4 text) ++ drop 6 text ≡ drop 4 text =
    ap (λ (rest : List ℕ). take 2 (drop 4 text) ++ rest) (sym (drop-drop 2 4 text)) ∙ take-append-drop 2 (drop 4 text) in
    ap (λ (rest : List ℕ). take 4 text ++ rest) later ∙ take-append-drop 4 text

digits_parts : (text : List ℕ) → are_digits text ≡ (are_digits (take 4 text) && (are_digits (take 2 (drop 4 text)) && are_digits (drop 6 text)))
digits_parts text =
    ap (λ (t : List ℕ). are_digits t) (sym (parts text))
    ∙ list_all-append is_ascii_digit (take 4 text) (take 2 (drop 4 text) ++ drop 6 text)
    ∙ ap (λ (rest : Bool). are_digits (take 4 text) && rest) (list_all-append is_ascii_digit (take 2 (drop 4 text)) (drop 6 text))

-- digits of the day
day_digits : (text : List ℕ) → are_digits text ≡ true → are_digits (take (length text - 6) (drop 6 text)) ≡ true
day_digits text are =
    let all = sym (digits_parts text) ∙ are in
    let later = second_so (are_digits (take 4 text)) (are_digits (take 2 (drop 4 text)) && are_digits (drop 6 text)) all in
    ap (λ (t : List ℕ). are_digits t) (take_rest text 6) ∙ second_so (are_digits (take 2 (drop 4 text))) (are_digits (drop 6 text)) later

fails : (a b c d : Bool) → b ≡ false → (a && b && c && d) ≡ false
fails true true c d failed = cc
fails true false c d failed = refl
fails false b c d failed = refl

-- no number is written where a byte is no digit
none_between : (width low high : ℕ) (text : List ℕ) → are_digits text ≡ false → digits_between width low high text ≡ None
none_between width low high text failed =
    cond-false _ _ _ (fails (length text == width) (are_digits text) (nat_le low (digits_value 10 text)) (nat_le (digits_value 10 text) high) failed)

none_month : (year day : Option ℕ) → day_of year None day ≡ None
none_month None day = refl
none_month (Some year) day = refl

none_day : (year month : Option ℕ) → day_of year month None ≡ None
none_day None month = refl
none_day (Some year) None = refl
none_day (Some year) (Some month) = refl

split : (a b c : Bool) → (a && (b && c)) ≡ false → (a ≡ false) ⊎ ((b ≡ false) ⊎ (c ≡ false))
split false b c failed = inl refl
split true false c failed = inr (inl refl)
split true true c failed = inr (inr failed)

-- a part that is not of digits leaves no date
without : (text : List ℕ) → (are_digits (take 4 text) ≡ false) ⊎ ((are_digits (take 2 (drop 4 text)) ≡ false) ⊎ (are_digits (drop 6 text) ≡ false)) → date_form text ≡ None
without text (inl failed) =
    ap (λ (year : Option ℕ). day_of year (digits_between 2 1 12 (take 2 (drop 4 text))) (digits_between 2 1 31 (drop 6 text))) (none_between 4 0 9999 (take 4 text) failed)
without text (inr (inl failed)) =
    ap (λ (month : Option ℕ). day_of (digits_between 4 0 9999 (take 4 text)) month (digits_between 2 1 31 (drop 6 text))) (none_between 2 1 12 (take 2 (drop 4 text)) failed)
    ∙ none_month (digits_between 4 0 9999 (take 4 text)) (digits_between 2 1 31 (drop 6 text))
without text (inr (inr failed)) =
    ap (λ (day : Option ℕ). day_of (digits_between 4 0 9999 (take 4 text)) (digits_between 2 1 12 (take 2 (drop 4 text))) day) (none_between 2 1 31 (drop 6 text) failed)
    ∙ none_day (digits_between 4 0 9999 (take 4 text)) (digits_between 2 1 12 (take 2 (drop 4 text)))

no_date : (text : List ℕ) → are_digits text ≡ false → None ≡ date_form text
no_date text failed =
    sym (without text (split (are_digits (take 4 text)) (are_digits (take 2 (drop 4 text))) (are_digits (drop 6 text)) (sym (digits_parts text) ∙ failed)))

pub returns-then-not-are_digits-clause-value : goal.returns-then-not-are_digits-clause-value
returns-then-not-are_digits-clause-value c = no_date c.args.text.now (sym c.are_digits.ensures ∙ c.if-not-are_digits.true)

pub value_between-requires-3-clause-digits : goal.value_between-requires-3-clause-digits
value_between-requires-3-clause-digits c = day_digits c.args.text.now (sym c.are_digits.ensures ∙ c.if-not-are_digits.false)

pub returns-clause-value : goal.returns-clause-value
returns-clause-value c =
    let text = c.args.text.now in
    let day = sym c.in_ok-day.was ∙ c.value_between-3.ensures.value ∙ ap (digits_between 2 1 31) (take_rest text 6) in
    (λ i. day_of ((sym c.in_ok-year.was ∙ c.value_between.ensures.value) i) ((sym c.in_ok-month.was ∙ c.value_between-2.ensures.value) i) (day i))
