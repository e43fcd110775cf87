-- How often each kind is there: one kind more.
use Rattle.std.proofs.Common.{◌≡◌, ◌≢◌, ℕ, ◌+◌, ◌-◌, ◌<◌, ◌≤◌, ◌^◌, List, [], ◌∷◌, ◌++◌, Bool, true, false, cond, refl, sym, ap, subst, ◌∙◌, zero, suc, map, length, get_or, set, not, arith, ◌||◌}
use Rattle.std.specs.List.{AllPairs, filter, list_any}
use Rattle.std.proofs.lemmas.List.{length-map, get_or-map}
use Rattle.std.proofs.lemmas.Map.Views.{any-filter_same}
use Rattle.audit_base.specs.Orders.{same_name}
use Rattle.day_symbols.specs.Symbols.{distinct_names}
use Rattle.day_symbols.proofs.SymbolLemmas.{distinct-more, distinct-once, is-same, same-is, with_name}
use Rattle.log_contents.specs.Counts.{count_of_kind, counts_of, kinds_in_order}

-- a kind counted among kinds with one more
pub count-more : (kind : List ℕ) (kinds : List (List ℕ)) (more : List ℕ)
    → count_of_kind kind (kinds ++ more ∷ []) ≡ count_of_kind kind kinds + cond (same_name kind more) 1 0
count-more kind [] more = omega arith
count-more kind (other ∷ kinds) more = let rest = count-more kind kinds more in omega (arith, rest)

-- the kind itself
pub count-own : (kind : List ℕ) (kinds : List (List ℕ)) → count_of_kind kind (kinds ++ kind ∷ []) ≡ count_of_kind kind kinds + 1
count-own kind kinds = let own = is-same kind kind refl in count-more kind kinds kind ∙ ap (λ (b : Bool). count_of_kind kind kinds + cond b 1 0) own

-- another one
pub differs : (a b : List ℕ) → a ≢ b → same_name a b ≡ false
differs a b other = elim (same_name a b) as (λ s. same_name a b ≡ s → same_name a b ≡ false) [
  | true ↦ λ is. absurd (other (same-is a b is))
  | false ↦ λ is. is
] refl

pub count-other : (kind : List ℕ) (kinds : List (List ℕ)) (more : List ℕ) → kind ≢ more → count_of_kind kind (kinds ++ more ∷ []) ≡ count_of_kind kind kinds
count-other kind kinds more other =
    let none : count_of_kind kind kinds + 0 ≡ count_of_kind kind kinds = omega arith in
    count-more kind kinds more ∙ ap (λ (b : Bool). count_of_kind kind kinds + cond b 1 0) (differs kind more other) ∙ none

-- no kind is counted more often than there are kinds
pub count-within : (kind : List ℕ) (kinds : List (List ℕ)) → count_of_kind kind kinds ≤ length kinds
count-within kind [] = omega arith
count-within kind (other ∷ kinds) = by (same_name kind other) (count-within kind kinds)
  where
    by : (b : Bool) → count_of_kind kind kinds ≤ length kinds → cond b 1 0 + count_of_kind kind kinds ≤ suc (length kinds)
    by true rest = omega (arith, rest)
    by false rest = omega (arith, rest)

-- a kind that is not there is counted as none
none-counted : (kind other : List ℕ) (kinds : List (List ℕ)) (b : Bool) → (list_any (same_name kind) kinds ≡ false → count_of_kind kind kinds ≡ 0)
    → same_name kind other ≡ b → (b || list_any (same_name kind) kinds) ≡ false → cond (same_name kind other) 1 0 + count_of_kind kind kinds ≡ 0
none-counted kind other kinds true rest is lacks = absurd (cc lacks)
none-counted kind other kinds false rest is lacks = let none = rest lacks in rw is (omega (arith, none))

pub count-absent : (kind : List ℕ) (kinds : List (List ℕ)) → list_any (same_name kind) kinds ≡ false → count_of_kind kind kinds ≡ 0
count-absent kind [] lacks = refl
count-absent kind (other ∷ kinds) lacks = none-counted kind other kinds (same_name kind other) (count-absent kind kinds) refl lacks

-- a kind that is not this one is not the same as it
others-away : (kind name : List ℕ) → same_name kind name ≡ false → (k : List ℕ) → same_name kind k ≡ true → not (same_name name k) ≡ true
others-away kind name is k same = elim (same_name name k) as (λ b. same_name name k ≡ b → not b ≡ true) [
  | true ↦ λ both. let k-is = same-is kind k same in let name-is = same-is name k both in
      let own : same_name kind name ≡ true = is-same kind name (k-is ∙ sym name-is) in cc
  | false ↦ λ both. refl
] refl

any-first : (kind name : List ℕ) (kinds : List (List ℕ)) (b : Bool) → list_any (same_name kind) (distinct_names kinds) ≡ list_any (same_name kind) kinds → same_name kind name ≡ b
    → (same_name kind name || list_any (same_name kind) (filter (λ other. not (same_name name other)) (distinct_names kinds))) ≡ (same_name kind name || list_any (same_name kind) kinds)
any-first kind name kinds true rest is = rw is refl
any-first kind name kinds false rest is = rw is (any-filter_same (same_name kind) (λ other. not (same_name name other)) true (others-away kind name is) (distinct_names kinds) ∙ rest)

-- the same kinds are there, each once or as often as before
pub any-distinct : (kind : List ℕ) (kinds : List (List ℕ)) → list_any (same_name kind) (distinct_names kinds) ≡ list_any (same_name kind) kinds
any-distinct kind [] = refl
any-distinct kind (name ∷ kinds) = any-first kind name kinds (same_name kind name) (any-distinct kind kinds) refl

-- counts of names that are all other than one more kind
map-others : (names kinds : List (List ℕ)) (more : List ℕ) → ((j : ℕ) → j < length names → get_or names j [] ≢ more) → counts_of names (kinds ++ more ∷ []) ≡ counts_of names kinds
map-others [] kinds more away = refl
map-others (name ∷ names) kinds more away =
    let first = count-other name kinds more (away 0 (omega arith)) in
    let rest = map-others names kinds more (λ j lt. away (suc j) (omega (arith, lt))) in
    ap (λ (n : ℕ). n ∷ counts_of names (kinds ++ more ∷ [])) first ∙ ap (λ (l : List ℕ). count_of_kind name kinds ∷ l) rest

-- one more of a kind that is among distinct names
pub counts-again : (names kinds : List (List ℕ)) (more : List ℕ) (at : ℕ) → AllPairs (λ (a b : List ℕ). a ≢ b) names → at < length names → get_or names at [] ≡ more
    → counts_of names (kinds ++ more ∷ []) ≡ set (counts_of names kinds) at (get_or (counts_of names kinds) at 0 + 1)
counts-again [] kinds more at once inside is = absurd (omega (arith, inside))
counts-again (name ∷ names) kinds more zero once inside is =
    let own : count_of_kind name (kinds ++ more ∷ []) ≡ count_of_kind name kinds + 1 = subst (λ (m : List ℕ). count_of_kind name (kinds ++ m ∷ []) ≡ count_of_kind name kinds + 1) is (count-own name kinds) in
    let rest = map-others names kinds more (λ j lt same. once 0 (suc j) [] (omega arith) (omega (arith, lt)) (is ∙ sym same)) in
    ap (λ (n : ℕ). n ∷ counts_of names (kinds ++ more ∷ [])) own ∙ ap (λ (l : List ℕ). (count_of_kind name kinds + 1) ∷ l) rest
counts-again (name ∷ names) kinds more (suc at) once inside is =
    let first = count-other name kinds more (λ same. once 0 (suc at) [] (omega arith) inside (same ∙ sym is)) in
    let rest = counts-again names kinds more at (λ i j d lt in-names. once (suc i) (suc j) d (omega (arith, lt)) (omega (arith, in-names))) (omega (arith, inside)) is in
    ap (λ (n : ℕ). n ∷ counts_of names (kinds ++ more ∷ [])) first ∙ ap (λ (l : List ℕ). count_of_kind name kinds ∷ l) rest

-- a kind that is not among some names
away-first : (name : List ℕ) (names : List (List ℕ)) (more : List ℕ) (b : Bool) → (list_any (same_name more) names ≡ false → (j : ℕ) → j < length names → get_or names j [] ≢ more)
    → same_name more name ≡ b → (b || list_any (same_name more) names) ≡ false → (j : ℕ) → j < suc (length names) → get_or (name ∷ names) j [] ≢ more
away-first name names more true rest same lacks j inside is = cc lacks
away-first name names more false rest same lacks zero inside is = let own = is-same more name (sym is) in cc
away-first name names more false rest same lacks (suc j) inside is = rest lacks j (omega (arith, inside)) is

absent-away : (names : List (List ℕ)) (more : List ℕ) → list_any (same_name more) names ≡ false → (j : ℕ) → j < length names → get_or names j [] ≢ more
absent-away [] more lacks j inside is = omega (arith, inside)
absent-away (name ∷ names) more lacks j inside is = away-first name names more (same_name more name) (absent-away names more) refl lacks j inside is

map-append : (names : List (List ℕ)) (more : List ℕ) (kinds : List (List ℕ)) → counts_of (names ++ more ∷ []) kinds ≡ counts_of names kinds ++ count_of_kind more kinds ∷ []
map-append [] more kinds = refl
map-append (name ∷ names) more kinds = ap (λ (l : List ℕ). count_of_kind name kinds ∷ l) (map-append names more kinds)

-- one of a kind that was not counted before
pub counts-first : (kinds : List (List ℕ)) (more : List ℕ) → list_any (same_name more) (distinct_names kinds) ≡ false
    → counts_of (distinct_names kinds ++ more ∷ []) (kinds ++ more ∷ []) ≡ counts_of (distinct_names kinds) kinds ++ 1 ∷ []
counts-first kinds more lacks =
    let names = distinct_names kinds in
    let none : count_of_kind more kinds ≡ 0 = count-absent more kinds (sym (any-distinct more kinds) ∙ lacks) in
    let one : count_of_kind more (kinds ++ more ∷ []) ≡ 1 = count-own more kinds ∙ ap (λ (n : ℕ). n + 1) none in
    map-append names more (kinds ++ more ∷ [])
    ∙ ap (λ (l : List ℕ). l ++ count_of_kind more (kinds ++ more ∷ []) ∷ []) (map-others names kinds more (absent-away names more lacks))
    ∙ ap (λ (n : ℕ). counts_of names kinds ++ n ∷ []) one

-- no count is greater than how many kinds there are
pub counts-low : (names kinds : List (List ℕ)) (i : ℕ) → get_or (counts_of names kinds) i 0 ≤ length kinds
counts-low [] kinds i = omega arith
counts-low (name ∷ names) kinds zero = count-within name kinds
counts-low (name ∷ names) kinds (suc i) = counts-low names kinds i

pub count-room : (names kinds : List (List ℕ)) (counts : List ℕ) (i : ℕ) → counts ≡ counts_of names kinds → length kinds < 2 ^ 32 - 1 → get_or counts i 0 < 2 ^ 32 - 1
count-room names kinds counts i are few =
    let low = counts-low names kinds i in
    let same : get_or counts i 0 ≡ get_or (counts_of names kinds) i 0 = ap (λ (l : List ℕ). get_or l i 0) are in omega (arith, low, same, few)

-- what is kept, with one more of a kind that was counted before
pub kept-again : (kinds : List (List ℕ)) (more : List ℕ) (names : List (List ℕ)) (counts later : List ℕ) (i : ℕ) → names ≡ distinct_names kinds → counts ≡ counts_of (distinct_names kinds) kinds
    → list_any (same_name more) names ≡ true → i < length names → same_name more (get_or names i []) ≡ true → later ≡ set counts i (get_or counts i 0 + 1)
    → (names ≡ distinct_names (kinds ++ more ∷ [])) × (later ≡ counts_of (distinct_names (kinds ++ more ∷ [])) (kinds ++ more ∷ []))
kept-again kinds more names counts later i are counted has inside same is =
    let there : list_any (same_name more) (distinct_names kinds) ≡ true = subst (λ (n : List (List ℕ)). list_any (same_name more) n ≡ true) are has in
    let stay : distinct_names (kinds ++ more ∷ []) ≡ distinct_names kinds = distinct-more kinds more ∙ ap (λ (b : Bool). cond b (distinct_names kinds) (distinct_names kinds ++ more ∷ [])) there in
    let within : i < length (distinct_names kinds) = subst (λ (n : List (List ℕ)). i < length n) are inside in
    let own : get_or (distinct_names kinds) i [] ≡ more = subst (λ (n : List (List ℕ)). get_or n i [] ≡ more) are (sym (same-is more (get_or names i []) same)) in
    let counts-are : later ≡ counts_of (distinct_names kinds) (kinds ++ more ∷ []) =
    is ∙ ap (λ (l : List ℕ). set l i (get_or l i 0 + 1)) counted ∙ sym (counts-again (distinct_names kinds) kinds more i (distinct-once kinds) within own) in
    (are ∙ sym stay, counts-are ∙ ap (λ (n : List (List ℕ)). counts_of n (kinds ++ more ∷ [])) (sym stay))

-- the same with one of a kind that was not
pub kept-first : (kinds : List (List ℕ)) (more : List ℕ) (names new : List (List ℕ)) (counts later : List ℕ) → names ≡ distinct_names kinds → counts ≡ counts_of (distinct_names kinds) kinds
    → list_any (same_name more) names ≡ false → new ≡ names ++ more ∷ [] → later ≡ counts ++ 1 ∷ []
    → (new ≡ distinct_names (kinds ++ more ∷ [])) × (later ≡ counts_of (distinct_names (kinds ++ more ∷ [])) (kinds ++ more ∷ []))
kept-first kinds more names new counts later are counted lacks names-are counts-are =
    let away : list_any (same_name more) (distinct_names kinds) ≡ false = subst (λ (n : List (List ℕ)). list_any (same_name more) n ≡ false) are lacks in
    let grown : distinct_names (kinds ++ more ∷ []) ≡ distinct_names kinds ++ more ∷ [] = distinct-more kinds more ∙ ap (λ (b : Bool). cond b (distinct_names kinds) (distinct_names kinds ++ more ∷ [])) away in (
      names-are ∙ ap (λ (n : List (List ℕ)). n ++ more ∷ []) are ∙ sym grown,
      counts-are ∙ ap (λ (l : List ℕ). l ++ 1 ∷ []) counted ∙ sym (counts-first kinds more away) ∙ ap (λ (n : List (List ℕ)). counts_of n (kinds ++ more ∷ [])) (sym grown),
    )
