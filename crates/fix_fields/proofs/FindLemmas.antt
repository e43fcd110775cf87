-- The first place at which a test passes, and the number of such places.
use Rattle.std.proofs.Common.{◌≡◌, ℕ, ◌+◌, ◌<◌, Bool, true, false, cond, ◌||◌, eqb, ltb, Some, List, [], ◌∷◌, length, get_or, drop, ap, sym, refl, ◌∙◌, arith, rules}
use Rattle.std.specs.List.{All, count_by, list_any, position, position_or_len, before_first, after_first}
use Rattle.std.proofs.lemmas.Bool.Decides.{nat_tests}
use Rattle.std.proofs.lemmas.List.{get_or-take, length-take-le}
use Rattle.std.proofs.lemmas.List.Elements.{All-head, All-tail, All-from_get_or}
use Rattle.std.proofs.lemmas.List.Sums.{sum_by-append, sum_by-cons, split_at_first, fails_before_first, passes_at_first}
use Rattle.fix_fields.specs.declared.field.Field.{Field}
use Rattle.fix_fields.specs.declared.field.Found.TheVariants.{One, Many}
use Rattle.fix_fields.specs.TagSearch.{search_for_tag, has_tag}
use Rattle.fix_fields.proofs.SearchLemmas.{first_is}

-- what fails everywhere is counted nowhere
pub count_none : {X : Type 0} (p : X → Bool) (xs : List X) → All (λ x. p x ≡ false) xs → count_by p xs ≡ 0
count_none p [] h = refl
count_none {X} p (x ∷ xs) h =
    let here : p x ≡ false = All-head (λ (y : X). p y ≡ false) x xs h in
    let rest : count_by p xs ≡ 0 = count_none p xs (All-tail (λ (y : X). p y ≡ false) x xs h) in sum_by-cons (λ y. cond (p y) 1 0) x xs ∙ rw (here, rest)

any_step : (b : Bool) (m : ℕ) (r : Bool) → r ≡ ltb 0 m → (b || r) ≡ ltb 0 (cond b 1 0 + m)
any_step true m r h = search (rules, nat_tests)
any_step false m r h = h ∙ ap (ltb 0) (omega arith)

-- an element passes where there is one to count
any_counts : {X : Type 0} (p : X → Bool) (xs : List X) → list_any p xs ≡ ltb 0 (count_by p xs)
any_counts p [] = refl
any_counts p (x ∷ xs) =
    any_step (p x) (count_by p xs) (list_any p xs) (any_counts p xs) ∙ ap (ltb 0) (sym (sum_by-cons (λ y. cond (p y) 1 0) x xs))

-- the elements that pass are the first one, and those after it
count_from_first : {X : Type 0} (p : X → Bool) (xs : List X) (d : X) (i : ℕ) → position p xs ≡ Some i → count_by p xs ≡ 1 + count_by p (drop (i + 1) xs)
count_from_first {X} p xs d i h =
    let first = first_is p xs i h in
    let n : ℕ = position_or_len p xs in
    let size : length (before_first p xs) ≡ n = length-take-le n xs (omega (arith, first.0)) in
    let before : count_by p (before_first p xs) ≡ 0 =
    count_none p (before_first p xs) (All-from_get_or (λ (x : X). p x ≡ false) (before_first p xs) d (λ k low.
    let below : k < n = omega arith in ap p (get_or-take n xs k d below) ∙ fails_before_first p xs k d below)) in
    let here : p (get_or xs n d) ≡ true = passes_at_first p xs d first.0 in
    let whole : count_by p xs ≡ count_by p (before_first p xs) + count_by p (get_or xs n d ∷ after_first p xs) =
    ap (count_by p) (split_at_first p xs d first.0) ∙ sum_by-append (λ y. cond (p y) 1 0) (before_first p xs) (get_or xs n d ∷ after_first p xs) in
    let rest : count_by p (get_or xs n d ∷ after_first p xs) ≡ cond {A = ℕ} (p (get_or xs n d)) 1 0 + count_by p (after_first p xs) =
    sum_by-cons (λ y. cond (p y) 1 0) (get_or xs n d) (after_first p xs) in
    let one : cond {A = ℕ} (p (get_or xs n d)) 1 0 ≡ 1 = ap (λ (b : Bool). cond {A = ℕ} b 1 0) here in
    let place : count_by p (after_first p xs) ≡ count_by p (drop (i + 1) xs) = ap (λ (k : ℕ). count_by p (drop (k + 1) xs)) first.1 in omega arith

any_field : Field
any_field = record { tag = 0; from = 0; to = 0 }

-- a tag that occurs after its first place occurs more than once
pub found_many : (fields : List Field) (tag i : ℕ) → position (has_tag tag) fields ≡ Some i → list_any (has_tag tag) (drop (i + 1) fields) ≡ true → search_for_tag fields tag ≡ Many i
found_many fields tag i h more =
    let count = count_from_first (has_tag tag) fields any_field i h in
    let some = sym (any_counts (has_tag tag) (drop (i + 1) fields)) ∙ more in
    let test : eqb (count_by (has_tag tag) fields) 1 ≡ false = grind (arith, nat_tests, some, count) in rw (h, test)

-- and else once
pub found_one : (fields : List Field) (tag i : ℕ) → position (has_tag tag) fields ≡ Some i → list_any (has_tag tag) (drop (i + 1) fields) ≡ false → search_for_tag fields tag ≡ One i
found_one fields tag i h more =
    let count = count_from_first (has_tag tag) fields any_field i h in
    let none = sym (any_counts (has_tag tag) (drop (i + 1) fields)) ∙ more in
    let test : eqb (count_by (has_tag tag) fields) 1 ≡ true = grind (arith, nat_tests, none, count) in rw (h, test)
