-- Tags of two and three digits.
use Rattle.std.proofs.Common.{◌≡◌, ℕ, ◌+◌, ◌-◌, ◌*◌, ◌<◌, ◌≤◌, true, false, eqb, Some, List, [], ◌∷◌, ◌++◌, length, get_or, take, ap, refl, subst, ◌∙◌, arith}
use Rattle.std.specs.Char.{is_ascii_digit, digit_value}
use Rattle.std.specs.Fmt.{decimal}
use Rattle.std.specs.List.{list_all}
use Rattle.std.specs.Str.Parse.{digits_value}
use Rattle.std.proofs.lemmas.Bool.Decides.{nat_tests}
use Rattle.std.proofs.lemmas.List.{length-take-le, take_more}
use Rattle.fix_fields.specs.FieldAt.{IsTagAt}
use Rattle.fix_fields.specs.Forms.{tag_form}
use Rattle.fix_fields.proofs.TagLemmas.{form_of, tag_form-some, tag_split}

-- a text that is a tag, and `=` after it
is-tag-at : (bytes : List ℕ) (size tag : ℕ) → size < length bytes → get_or bytes size 0 ≡ 61 → tag_form (take size bytes) ≡ Some tag → IsTagAt bytes tag (size + 1)
is-tag-at bytes size tag low here form =
    let some = tag_form-some (take size bytes) tag form in
    let cut : length (take size bytes) ≡ size = length-take-le size bytes (omega (arith, low)) in
    let sizes : length (take size bytes) ≡ length (decimal tag) = ap length some.0 in
    record { form = some.1; split = tag_split bytes size tag low here form; counted = omega (arith, cut, sizes) }

digit-is : (c : ℕ) → is_ascii_digit c ≡ true → digit_value c ≡ c - 48
digit-is c h = grind (arith, nat_tests)

low : (c : ℕ) → is_ascii_digit c ≡ true → 48 ≤ c
low c h = grind (arith, nat_tests)

above : (c : ℕ) → is_ascii_digit c ≡ true → eqb c 48 ≡ false → 48 < c
above c h other = grind (arith, nat_tests)

two : (a b : ℕ) → is_ascii_digit a ≡ true → is_ascii_digit b ≡ true → eqb a 48 ≡ false → tag_form (a ∷ b ∷ []) ≡ Some ((a - 48) * 10 + (b - 48))
two a b p q other =
    let all : list_all is_ascii_digit (a ∷ b ∷ []) ≡ true = rw (p, q) refl in
    let value : digits_value 10 (a ∷ b ∷ []) ≡ (a - 48) * 10 + (b - 48) = omega (arith, digit-is a p, digit-is b q) in
    form_of (a ∷ b ∷ []) ((a - 48) * 10 + (b - 48)) (above a p other) (omega arith) (omega arith) all value

three : (a b c : ℕ) → is_ascii_digit a ≡ true → is_ascii_digit b ≡ true → is_ascii_digit c ≡ true → eqb a 48 ≡ false
    → tag_form (a ∷ b ∷ c ∷ []) ≡ Some ((a - 48) * 100 + (b - 48) * 10 + (c - 48))
three a b c p q r other =
    let all : list_all is_ascii_digit (a ∷ b ∷ c ∷ []) ≡ true = rw (p, q, r) refl in
    let value : digits_value 10 (a ∷ b ∷ c ∷ []) ≡ (a - 48) * 100 + (b - 48) * 10 + (c - 48) = omega (arith, digit-is a p, digit-is b q, digit-is c r) in
    form_of (a ∷ b ∷ c ∷ []) ((a - 48) * 100 + (b - 48) * 10 + (c - 48)) (above a p other) (omega arith) (omega arith) all value

-- the codes of `0` are taken off once
two-sum : (a b : ℕ) → 48 ≤ a → 48 ≤ b → (a - 48) * 10 + (b - 48) ≡ a * 10 + b - 528
two-sum a b p q = omega (arith, p, q)

three-sum : (a b c : ℕ) → 48 ≤ a → 48 ≤ b → 48 ≤ c → (a - 48) * 100 + (b - 48) * 10 + (c - 48) ≡ a * 100 + b * 10 + c - 5328
three-sum a b c p q r = omega (arith, p, q, r)

module _ (bytes : List ℕ) (long : 4 ≤ length bytes) where
  front-one : take 1 bytes ≡ get_or bytes 0 0 ∷ []
  front-one = take_more bytes 0 0 (omega (arith, long))

  front-two : take 2 bytes ≡ get_or bytes 0 0 ∷ get_or bytes 1 0 ∷ []
  front-two = take_more bytes 1 0 (omega (arith, long)) ∙ ap (λ (r : List ℕ). r ++ get_or bytes 1 0 ∷ []) front-one

  front-three : take 3 bytes ≡ get_or bytes 0 0 ∷ get_or bytes 1 0 ∷ get_or bytes 2 0 ∷ []
  front-three = take_more bytes 2 0 (omega (arith, long)) ∙ ap (λ (r : List ℕ). r ++ get_or bytes 2 0 ∷ []) front-two

  pub two-digits : get_or bytes 2 0 ≡ 61 → is_ascii_digit (get_or bytes 0 0) ≡ true → is_ascii_digit (get_or bytes 1 0) ≡ true → eqb (get_or bytes 0 0) 48 ≡ false
      → IsTagAt bytes (get_or bytes 0 0 * 10 + get_or bytes 1 0 - 528) 3
  two-digits here p q other =
      let a : ℕ = get_or bytes 0 0 in
      let b : ℕ = get_or bytes 1 0 in
      subst (λ (tag : ℕ). IsTagAt bytes tag 3) (two-sum a b (low a p) (low b q))
      (is-tag-at bytes 2 ((a - 48) * 10 + (b - 48)) (omega (arith, long)) here (ap tag_form front-two ∙ two a b p q other))

  pub three-digits : get_or bytes 3 0 ≡ 61 → is_ascii_digit (get_or bytes 0 0) ≡ true → is_ascii_digit (get_or bytes 1 0) ≡ true → is_ascii_digit (get_or bytes 2 0) ≡ true
      → eqb (get_or bytes 0 0) 48 ≡ false → IsTagAt bytes (get_or bytes 0 0 * 100 + get_or bytes 1 0 * 10 + get_or bytes 2 0 - 5328) 4
  three-digits here p q r other =
      let a : ℕ = get_or bytes 0 0 in
      let b : ℕ = get_or bytes 1 0 in
      let c : ℕ = get_or bytes 2 0 in
      subst (λ (tag : ℕ). IsTagAt bytes tag 4) (three-sum a b c (low a p) (low b q) (low c r))
      (is-tag-at bytes 3 ((a - 48) * 100 + (b - 48) * 10 + (c - 48)) (omega (arith, long)) here (ap tag_form front-three ∙ three a b c p q r other))
