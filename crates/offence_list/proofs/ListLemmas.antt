-- The answers below a number, one number further, and the first of them.
use Rattle.std.proofs.Common.{◌≡◌, ◌∙◌, sym, ap, refl, ℕ, zero, suc, ◌+◌, List, [], ◌∷◌, ◌++◌, Option, None, Some, add-one, arith}
use Rattle.std.specs.Prelude.{filter_map, slice_get, map, option_map}
use Rattle.std.specs.List.{range_with_len, cons_option}
use Rattle.std.specs.Option.{option_or}
use Rattle.std.proofs.lemmas.List.Elements.{filter_map-append}
use Rattle.audit_base.specs.Least.{least_answer}
use Rattle.offence_list.specs.Answers.{answers_below, with_answer}

range-more : (a n : ℕ) → range_with_len a (suc n) ≡ range_with_len a n ++ (a + n) ∷ []
range-more a zero = let e : a + 0 ≡ a = omega arith in ap (λ (x : ℕ). x ∷ []) (sym e)
range-more a (suc n) =
    let e : a + 1 + n ≡ a + suc n = omega arith in
    ap (λ (xs : List ℕ). a ∷ xs) (range-more (a + 1) n ∙ ap (λ (x : ℕ). range_with_len (a + 1) n ++ x ∷ []) e)

module _ {A : Type 0} (answer : ℕ → Option A) where
  -- one number further
  pub answers-more : (n : ℕ) → answers_below answer (suc n) ≡ answers_below answer n ++ cons_option (answer n) []
  answers-more n =
      let e : 0 + n ≡ n = omega arith in
      ap (filter_map answer) (range-more 0 n) ∙ filter_map-append answer (range_with_len 0 n) ((0 + n) ∷ [])
      ∙ ap (λ (x : ℕ). answers_below answer n ++ cons_option (answer x) []) e

  nothing-behind : (xs : List A) → xs ++ [] ≡ xs
  nothing-behind [] = refl
  nothing-behind (x ∷ xs) = ap (λ (ys : List A). x ∷ ys) (nothing-behind xs)

  behind : (xs : List A) (o : Option A) → xs ++ cons_option o [] ≡ with_answer xs o
  behind xs None = nothing-behind xs
  behind xs (Some x) = refl

  -- the same by a step of a loop
  pub answers-step : (n : ℕ) → answers_below answer (n + 1) ≡ with_answer (answers_below answer n) (answer n)
  answers-step n = ap (answers_below answer) (add-one n) ∙ answers-more n ∙ behind (answers_below answer n) (answer n)

  head-or : (xs : List A) (o : Option A) → slice_get (xs ++ cons_option o []) 0 ≡ option_or (slice_get xs 0) o
  head-or [] None = refl
  head-or [] (Some x) = refl
  head-or (x ∷ xs) o = refl

  -- the first answer in the list is the one at the least number that has one
  pub answers-first : (n : ℕ) → slice_get (answers_below answer n) 0 ≡ least_answer answer n
  answers-first zero = refl
  answers-first (suc n) = ap (λ (xs : List A). slice_get xs 0) (answers-more n) ∙ head-or (answers_below answer n) (answer n) ∙ ap (λ (o : Option A). option_or o (answer n)) (answers-first n)

module _ {A B : Type 0} (f : A → B) where
  map-behind : (xs : List A) (x : A) → map f (xs ++ x ∷ []) ≡ map f xs ++ f x ∷ []
  map-behind [] x = refl
  map-behind (y ∷ ys) x = ap (λ (zs : List B). f y ∷ zs) (map-behind ys x)

  -- what is made of each answer
  map-with_answer : (xs : List A) (o : Option A) → map f (with_answer xs o) ≡ with_answer (map f xs) (option_map f o)
  map-with_answer xs None = refl
  map-with_answer xs (Some x) = map-behind xs x

  -- a list whose members are made into the answers so far, one number further
  pub mapped-further : (answer : ℕ → Option B) (n : ℕ) (found later : List A) (o : Option A) → map f found ≡ answers_below answer n → option_map f o ≡ answer n
      → later ≡ with_answer found o → map f later ≡ answers_below answer (n + 1)
  mapped-further answer n found later o found_is o_is later_is =
      ap (map f) later_is ∙ map-with_answer found o ∙ (λ i. with_answer (found_is i) (o_is i)) ∙ sym (answers-step answer n)
