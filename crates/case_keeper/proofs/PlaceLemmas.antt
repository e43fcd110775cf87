-- The place of the case of a label, as cases are added at the end.
use Rattle.std.proofs.Common.{◌≡◌, ℕ, ◌+◌, ◌≤◌, Bool, true, false, cond, List, [], ◌∷◌, ◌++◌, length, eqb, ltb, Some, None, slice_get, refl, sym, ap, ◌∙◌, arith, ⊎_elim, length-append, not, subst}
use Rattle.std.specs.Prelude.{Option, find, bytes_eq}
use Rattle.std.specs.BTreeMap.{BTreeMap, get, Updates}
use Rattle.std.specs.Cmp.Lexicographic.{slice_cmp}
use Rattle.std.specs.List.{position, position_or_len}
use Rattle.std.specs.Option.{option_and_then, option_or}
use Rattle.std.specs.Ordering.{nat_cmp}
use Rattle.std.proofs.lemmas.Bool.{cases_lt, eq-eqb, le-ltb, lt-ltb, ltb-false, ne_eqb}
use Rattle.std.proofs.lemmas.Option.{none-some, slice_get_past}
use Rattle.std.proofs.lemmas.List.Folds.{find_at, position_or_len_push}
use Rattle.std.proofs.lemmas.List.Sums.{prefix_len-le-length}
use Rattle.std.proofs.lemmas.Map.Text.{is_eq-slice_cmp}
use Rattle.std.proofs.lemmas.Slice.Eq.{bytes_eq-Decides}
use Rattle.case_keeper.specs.Cases.{has_label, kept_case}
use Rattle.case_keeper.specs.IndexedCases.{index_of_label, IsLabelIndex}
use Rattle.case_keeper.specs.declared.case.Case.{Case}

-- what is found is at its index
found_at_place : {X : Type 0} (p : X → Bool) (xs : List X) → find p xs ≡ option_and_then (slice_get xs) (position p xs)
found_at_place {X} p xs = find_at p xs ∙ inside (ltb place (length xs)) refl
  where
    place : ℕ
    place = position_or_len p xs

    inside : (b : Bool) → ltb place (length xs) ≡ b → slice_get xs place ≡ option_and_then (slice_get xs) (cond b (Some place) None)
    inside true e = refl
    inside false e = slice_get_past xs place (ltb-false place (length xs) e)

past : {X : Type 0} (p : X → Bool) (xs : List X) → find p xs ≡ None → length xs ≤ position_or_len p xs
past p [] e = omega arith
past p (x ∷ xs) e = head (p x) e (past p xs)
  where
    head : (b : Bool) → cond b (Some x) (find p xs) ≡ None → (find p xs ≡ None → length xs ≤ position_or_len p xs) → length (x ∷ xs) ≤ cond (not b) (1 + position_or_len p xs) 0
    head true e behind = absurd (none-some x (sym e))
    head false e behind = omega (arith, behind e)

-- where nothing is found there is no place
no_place : {X : Type 0} (p : X → Bool) (xs : List X) → find p xs ≡ None → position p xs ≡ None
no_place p xs e = ap (λ b. cond b (Some (position_or_len p xs)) None) (le-ltb (position_or_len p xs) (length xs) (past p xs e))

last_shape : (next size : ℕ) (b : Bool) → next ≡ size + cond b 0 1 → cond (ltb next (size + 1)) (Some next) None ≡ cond b (Some size) None
last_shape next size true e = ap (λ t. cond t (Some next) None) (lt-ltb next (size + 1) (omega arith)) ∙ ap Some (omega arith)
last_shape next size false e = ap (λ t. cond t (Some next) None) (le-ltb next (size + 1) (omega arith))

place_shape : (place next size : ℕ) (b : Bool) → place ≤ size → next ≡ cond (eqb place size) (size + cond b 0 1) place
    → cond (ltb next (size + 1)) (Some next) None ≡ option_or (cond (ltb place size) (Some place) None) (cond b (Some size) None)
place_shape place next size b le e = ⊎_elim
    (λ before.
    let same : next ≡ place = e ∙ ap (λ t. cond t (size + cond b 0 1) place) (ne_eqb place size (λ q. omega arith)) in
    ap (λ t. cond t (Some next) None) (lt-ltb next (size + 1) (omega arith)) ∙ ap Some same
    ∙ sym (ap (λ t. option_or (cond t (Some place) None) (cond b (Some size) None)) (lt-ltb place size before)))
    (λ behind.
    let last : next ≡ size + cond b 0 1 = e ∙ ap (λ t. cond t (size + cond b 0 1) place) (eq-eqb place size (omega arith)) in
    last_shape next size b last ∙ sym (ap (λ t. option_or (cond t (Some place) None) (cond b (Some size) None)) (le-ltb place size behind)))
    (cases_lt place size)

-- a member that is added at the end is first only where none before it is
place_push : {X : Type 0} (p : X → Bool) (xs : List X) (x : X) → position p (xs ++ x ∷ []) ≡ option_or (position p xs) (cond (p x) (Some (length xs)) None)
place_push p xs x =
    let next = position_or_len p (xs ++ x ∷ []) in
    ap (λ n. cond (ltb next n) (Some next) None) (length-append xs (x ∷ []))
    ∙ place_shape (position_or_len p xs) next (length xs) (p x) (prefix_len-le-length (λ y. not (p y)) xs) (position_or_len_push p xs x)

-- the case at the index of a label is the case that is kept under it
pub kept_at : (cases : List Case) (index : BTreeMap (List ℕ) ℕ) (label : List ℕ) (place : Option ℕ) → IsLabelIndex index cases → place ≡ get (slice_cmp nat_cmp) index label
    → option_and_then (slice_get cases) place ≡ kept_case cases label
kept_at cases index label place holds e = ap (option_and_then (slice_get cases)) (e ∙ holds label) ∙ sym (found_at_place (has_label label) cases)

-- an index stays one as a case is added whose label no case has
pub index_more : (cases : List Case) (case : Case) (old new : BTreeMap (List ℕ) ℕ) → kept_case cases case.label ≡ None → IsLabelIndex old cases
    → Updates (slice_cmp nat_cmp) old new case.label (Some (length cases)) → IsLabelIndex new (cases ++ case ∷ [])
index_more cases case old new none holds puts label =
    puts.0 label
    ∙ ap (λ t. cond t (Some (length cases)) (get (slice_cmp nat_cmp) old label)) (is_eq-slice_cmp case.label label)
    ∙ ap (λ o. cond (bytes_eq case.label label) (Some (length cases)) o) (holds label)
    ∙ turned (bytes_eq case.label label) refl
    ∙ sym (place_push (has_label label) cases case)
  where
    or_none : (o : Option ℕ) → o ≡ option_or o None
    or_none None = refl
    or_none (Some n) = refl

    turned : (b : Bool) → bytes_eq case.label label ≡ b → cond b (Some (length cases)) (index_of_label cases label) ≡ option_or (index_of_label cases label) (cond b (Some (length cases)) None)
    turned true e =
        let none_here : index_of_label cases label ≡ None = subst (λ l. index_of_label cases l ≡ None) ((bytes_eq-Decides case.label label).0 e) (no_place (has_label case.label) cases none) in
        sym (ap (λ o. option_or o (Some (length cases))) none_here)
    turned false e = or_none (index_of_label cases label)
