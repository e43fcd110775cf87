-- Distinct names: one name more, and the laws.
use Rattle.std.proofs.Common.{◌≡◌, ◌≢◌, ℕ, List, [], ◌∷◌, ◌++◌, Bool, true, false, All, refl, sym, ap, subst, ◌∙◌, inl, inr, zero, suc, append-nil, cond, not, arith}
use Rattle.std.specs.List.{AllPairs, Contains, filter, list_any}
use Rattle.std.proofs.lemmas.List.Elements.{All-nil, All-cons, All-head, All-filter, All-weaker, All-contains_itself, Contains-append_cases, Contains-append_right, filter-append, filter_passes}
use Rattle.std.proofs.lemmas.List.Kept.{AllPairs-cons, AllPairs-filter}
use Rattle.std.proofs.lemmas.Map.Views.{any-filter_same}
use Rattle.std.proofs.lemmas.Slice.Eq.{bytes_eq-Decides}
use Rattle.audit_base.specs.Orders.{same_name}
use Rattle.day_symbols.specs.Symbols.{distinct_names}
use Rattle.day_symbols.specs.Laws.{AreEachOnce}

-- a name is another than this one
abbrev is_other : List ℕ → List ℕ → Bool
is_other name other = not (same_name name other)

-- names with one more, unless it is among them
abbrev pub with_name : List (List ℕ) → List ℕ → List (List ℕ)
with_name names name = cond (list_any (same_name name) names) names (names ++ name ∷ [])

pub same-is : (a b : List ℕ) → same_name a b ≡ true → a ≡ b
same-is a b = (bytes_eq-Decides a b).0

pub is-same : (a b : List ℕ) → a ≡ b → same_name a b ≡ true
is-same a b = (bytes_eq-Decides a b).1

-- names that are the same as another one are other than this one, if that is
others-kept : (name more : List ℕ) → same_name more name ≡ false → (k : List ℕ) → same_name more k ≡ true → is_other name k ≡ true
others-kept name more differs k same = elim (same_name name k) as (λ b. same_name name k ≡ b → not b ≡ true) [
  | true ↦ λ is. let k-is = same-is more k same in let name-is = same-is name k is in
      let both : same_name more name ≡ true = is-same more name (k-is ∙ sym name-is) in cc
  | false ↦ λ is. refl
] refl

-- the other ones of names with one more at their end, by whether that is another
other-more : (name more : List ℕ) (kept : List (List ℕ)) (other : Bool) → is_other name more ≡ other
    → filter (is_other name) (kept ++ more ∷ []) ≡ filter (is_other name) kept ++ cond other (more ∷ []) []
other-more name more kept other is = filter-append (is_other name) kept (more ∷ []) ∙ ap (λ b. filter (is_other name) kept ++ cond b (more ∷ []) []) is

-- one name more after a first one, by whether that is the same, and whether the other ones have it
more-behind : (name more : List ℕ) (kept : List (List ℕ)) (first among : Bool) → same_name more name ≡ first → list_any (same_name more) kept ≡ among
    → name ∷ filter (is_other name) (cond among kept (kept ++ more ∷ [])) ≡ with_name (name ∷ filter (is_other name) kept) more
more-behind name more kept true true first-is among-is = rw first-is refl
more-behind name more kept true false first-is among-is =
    let same : same_name name more ≡ true = is-same name more (sym (same-is more name first-is)) in
    rw first-is (ap (λ (rest : List (List ℕ)). name ∷ rest) (other-more name more kept false (ap not same) ∙ append-nil (filter (is_other name) kept)))
more-behind name more kept false true first-is among-is =
    let any = any-filter_same (same_name more) (is_other name) true (others-kept name more first-is) kept in
    rw (first-is, any, among-is) refl
more-behind name more kept false false first-is among-is =
    let any = any-filter_same (same_name more) (is_other name) true (others-kept name more first-is) kept in
    let differs : is_other name more ≡ true = others-kept name more first-is more (is-same more more refl) in
    rw (first-is, any, among-is) (ap (λ (rest : List (List ℕ)). name ∷ rest) (other-more name more kept true differs))

-- the distinct ones of names with one more at their end
pub distinct-more : (names : List (List ℕ)) (more : List ℕ) → distinct_names (names ++ more ∷ []) ≡ with_name (distinct_names names) more
distinct-more [] more = refl
distinct-more (name ∷ names) more =
    ap (λ kept. name ∷ filter (is_other name) kept) (distinct-more names more)
    ∙ more-behind name more (distinct_names names) (same_name more name) (list_any (same_name more) (distinct_names names)) refl refl

-- no name is there twice
pub distinct-once : (names : List (List ℕ)) → AllPairs (λ (a b : List ℕ). a ≢ b) (distinct_names names)
distinct-once [] = λ i j d lt inside. absurd (omega arith)
distinct-once (name ∷ names) =
    AllPairs-cons (λ (a b : List ℕ). a ≢ b) name (filter (is_other name) (distinct_names names))
    (All-weaker (λ (other : List ℕ). is_other name other ≡ true) (λ (other : List ℕ). name ≢ other) (λ other passes same. let is = is-same name other same in cc) (filter (is_other name) (distinct_names names)) (filter_passes (is_other name) (distinct_names names)))
    (AllPairs-filter (λ (a b : List ℕ). a ≢ b) (is_other name) (distinct_names names) (distinct-once names))

-- a list has its first member
has-first : {X : Type 0} (x : X) (xs : List X) → Contains (x ∷ xs) x
has-first x xs = All-head (Contains (x ∷ xs)) x xs (All-contains_itself (x ∷ xs))

-- the only member of a list
first-is : {X : Type 0} (y x : X) → Contains (y ∷ []) x → y ≡ x
first-is {X} y x (zero, inside, is) = is
first-is {X} y x (suc k, inside, is) = absurd (omega arith)

-- what is there stays there with or without one member more at the front
kept-behind : {X : Type 0} (y : X) (rest : List X) (x : X) (kept : Bool) → Contains rest x → Contains (cond kept (y ∷ rest) rest) x
kept-behind y rest x true has = Contains-append_right (y ∷ []) rest x has
kept-behind y rest x false has = has

-- what passes a test is still there after it
has-kept : {X : Type 0} (test : X → Bool) (xs : List X) (x : X) → test x ≡ true → Contains xs x → Contains (filter test xs) x
has-kept test [] x passes has = has
has-kept {X} test (y ∷ ys) x passes has =
    elim (Contains-append_cases (y ∷ []) ys x has) as (λ _. Contains (filter test (y ∷ ys)) x) [
      | inl first ↦ let is : y ≡ x = first-is y x first in
          let passes-y : test y ≡ true = ap test is ∙ passes in
          rw passes-y (subst (λ (z : X). Contains (y ∷ filter test ys) z) is (has-first y (filter test ys)))
      | inr behind ↦ kept-behind y (filter test ys) x (test y) (has-kept test ys x passes behind)
    ]

-- each is one of the names
distinct-only : (names : List (List ℕ)) → All (Contains names) (distinct_names names)
distinct-only [] = All-nil (Contains [])
distinct-only (name ∷ names) =
    let behind : All (Contains (name ∷ names)) (distinct_names names) = All-weaker (Contains names) (Contains (name ∷ names)) (λ x has. Contains-append_right (name ∷ []) names x has) (distinct_names names) (distinct-only names) in
    All-cons (Contains (name ∷ names)) name (filter (is_other name) (distinct_names names)) (has-first name names) (All-filter (is_other name) (Contains (name ∷ names)) (distinct_names names) behind)

-- a name among distinct ones is the first one or among the others
has-either : (name : List ℕ) (kept : List (List ℕ)) (x : List ℕ) (same : Bool) → same_name name x ≡ same → Contains kept x → Contains (name ∷ filter (is_other name) kept) x
has-either name kept x true is has = subst (λ (z : List ℕ). Contains (name ∷ filter (is_other name) kept) z) (same-is name x is) (has-first name (filter (is_other name) kept))
has-either name kept x false is has = Contains-append_right (name ∷ []) (filter (is_other name) kept) x (has-kept (is_other name) kept x (ap not is) has)

-- each name is there
pub distinct-all : (names : List (List ℕ)) → All (Contains (distinct_names names)) names
distinct-all [] = All-nil (Contains [])
distinct-all (name ∷ names) =
    let rest = filter (is_other name) (distinct_names names) in
    All-cons (Contains (name ∷ rest)) name names (has-first name rest)
    (All-weaker (Contains (distinct_names names)) (Contains (name ∷ rest)) (λ x has. has-either name (distinct_names names) x (same_name name x) refl has) names (distinct-all names))

-- the law of a list of names
pub each-once : (names : List (List ℕ)) → AreEachOnce names (distinct_names names)
each-once names = record { once = distinct-once names; all = distinct-all names; only = distinct-only names }

-- where some names were the distinct ones of others, they are so with one name more
pub distinct_met : (names old new : List (List ℕ)) (more : List ℕ) → old ≡ distinct_names names → new ≡ with_name old more → new ≡ distinct_names (names ++ more ∷ [])
distinct_met names old new more was now = now ∙ ap (λ kept. with_name kept more) was ∙ sym (distinct-more names more)
