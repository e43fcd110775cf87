-- The lines of kinds, one more at a time, and the symbols of two logs.
use Rattle.std.proofs.Common.{◌≡◌, ◌≢◌, ◌∙◌, ℕ, suc, ◌+◌, ◌<◌, ◌≤◌, List, [], ◌∷◌, ◌++◌, refl, sym, ap, subst, length, get_or, take, map, append_assoc, arith, not, false}
use Rattle.std.specs.List.{AllPairs, filter, flat_map}
use Rattle.std.proofs.lemmas.List.{flat_map_more, get_or-map, take_all, take_more}
use Rattle.audit_base.specs.Orders.{same_name}
use Rattle.day_symbols.specs.Symbols.{distinct_names}
use Rattle.day_symbols.proofs.SymbolLemmas.{distinct-once}
use Rattle.log_contents.specs.declared.kind_counts.KindCounts.{KindCounts}
use Rattle.log_contents.specs.Counts.{HasCounted, count_of_kind, kinds_counted, kinds_in_order}
use Rattle.log_contents.proofs.CountLemmas.{differs}

-- a line more, of the next of some names
lines-more : (line : List ℕ → List ℕ) (names : List (List ℕ)) (front old new : List ℕ) (i : ℕ) → i < length names → old ≡ front ++ flat_map line (take i names)
    → new ≡ old ++ line (get_or names i []) → new ≡ front ++ flat_map line (take (i + 1) names)
lines-more line names front old new i inside was is =
    is ∙ ap (λ (l : List ℕ). l ++ line (get_or names i [])) was ∙ flat_map_more line front (take i names) (get_or names i [])
    ∙ ap (λ (l : List (List ℕ)). front ++ flat_map line l) (sym (take_more names i [] inside))

-- the same of the kind at an index, with how often it was counted
pub kind-more : (line : List ℕ → ℕ → List ℕ) (counted : KindCounts) (kinds : List (List ℕ)) (front old new : List ℕ) (i : ℕ) → HasCounted counted kinds → i < length (kinds_counted counted)
    → old ≡ front ++ flat_map (λ (kind : List ℕ). line kind (count_of_kind kind kinds)) (take i (kinds_in_order kinds))
    → new ≡ old ++ line (get_or (kinds_counted counted) i []) (get_or counted.counts.items i 0)
    → new ≡ front ++ flat_map (λ (kind : List ℕ). line kind (count_of_kind kind kinds)) (take (i + 1) (kinds_in_order kinds))
kind-more line counted kinds front old new i has inside was is =
    let names = kinds_in_order kinds in
    let within : i < length names = subst (λ (n : List (List ℕ)). i < length n) has.order inside in
    let kind-is : get_or (kinds_counted counted) i [] ≡ get_or names i [] = ap (λ (n : List (List ℕ)). get_or n i []) has.order in
    let count-is : get_or counted.counts.items i 0 ≡ count_of_kind (get_or names i []) kinds =
    ap (λ (l : List ℕ). get_or l i 0) has.counts ∙ get_or-map (λ (kind : List ℕ). count_of_kind kind kinds) names i [] 0 within in
    lines-more (λ (kind : List ℕ). line kind (count_of_kind kind kinds)) names front old new i within was
    (is ∙ ap (λ (k : List ℕ). old ++ line k (get_or counted.counts.items i 0)) kind-is ∙ ap (λ (n : ℕ). old ++ line (get_or names i []) n) count-is)

-- names that are all other than this one
kept-all : (name : List ℕ) (names : List (List ℕ)) → ((j : ℕ) → j < length names → name ≢ get_or names j []) → filter (λ (other : List ℕ). not (same_name name other)) names ≡ names
kept-all name [] away = refl
kept-all name (first ∷ names) away =
    let other : same_name name first ≡ false = differs name first (away 0 (omega arith)) in
    rw other (ap (λ (l : List (List ℕ)). first ∷ l) (kept-all name names (λ j lt. away (suc j) (omega (arith, lt)))))

-- names of which none is there twice are distinct already
once-same : (names : List (List ℕ)) → AllPairs (λ (a b : List ℕ). a ≢ b) names → distinct_names names ≡ names
once-same [] once = refl
once-same (name ∷ names) once =
    ap (λ (kept : List (List ℕ)). name ∷ filter (λ (other : List ℕ). not (same_name name other)) kept) (once-same names (λ i j d lt inside. once (suc i) (suc j) d (omega (arith, lt)) (omega (arith, inside))))
    ∙ ap (λ (l : List (List ℕ)). name ∷ l) (kept-all name names (λ j lt. once 0 (suc j) [] (omega arith) (omega (arith, lt))))

-- names, and others each once or as often as before
same-distinct : (names more : List (List ℕ)) → distinct_names (names ++ distinct_names more) ≡ distinct_names (names ++ more)
same-distinct [] more = once-same (distinct_names more) (distinct-once more)
same-distinct (name ∷ names) more =
    ap (λ (kept : List (List ℕ)). name ∷ filter (λ (other : List ℕ). not (same_name name other)) kept) (same-distinct names more)

-- one more of the others was met
pub met-more : (names others new : List (List ℕ)) (i : ℕ) → i < length others → new ≡ distinct_names ((names ++ take i others) ++ get_or others i [] ∷ []) → new ≡ distinct_names (names ++ take (i + 1) others)
met-more names others new i inside is =
    is ∙ ap distinct_names (append_assoc names (take i others) (get_or others i [] ∷ []) ∙ ap (λ (l : List (List ℕ)). names ++ l) (sym (take_more others i [] inside)))

-- all of them were
pub met-all : (names more others new : List (List ℕ)) (n : ℕ) → length others ≤ n → others ≡ distinct_names more → new ≡ distinct_names (names ++ take n others) → new ≡ distinct_names (names ++ more)
met-all names more others new n whole are is =
    is ∙ ap (λ (l : List (List ℕ)). distinct_names (names ++ l)) (take_all n others whole ∙ are) ∙ same-distinct names more

-- seven texts, appended one after another
pub seven-joined : (a b c d e f g : List ℕ) → (((((a ++ b) ++ c) ++ d) ++ e) ++ f) ++ g ≡ a ++ (b ++ (c ++ (d ++ (e ++ (f ++ g)))))
seven-joined a b c d e f g =
    append_assoc ((((a ++ b) ++ c) ++ d) ++ e) f g ∙ append_assoc (((a ++ b) ++ c) ++ d) e (f ++ g) ∙ append_assoc ((a ++ b) ++ c) d (e ++ (f ++ g))
    ∙ append_assoc (a ++ b) c (d ++ (e ++ (f ++ g))) ∙ append_assoc a b (c ++ (d ++ (e ++ (f ++ g))))
