-- The counts of all kinds are as many as the kinds.
use Rattle.std.proofs.Common.{◌≡◌, ℕ, ◌+◌, ◌<◌, Bool, true, false, List, [], ◌∷◌, ◌++◌, refl, sym, ap, subst, ◌∙◌, suc, length, get_or, set, append-nil, append_assoc, arith, ◌||◌}
use Rattle.std.specs.List.{list_any, sum}
use Rattle.std.proofs.lemmas.List.{length-map}
use Rattle.std.proofs.lemmas.List.Sums.{sum_by-set, sum_by_push}
use Rattle.audit_base.specs.Orders.{same_name}
use Rattle.day_symbols.specs.Symbols.{distinct_names}
use Rattle.log_contents.specs.Counts.{count_of_kind, counts_of}
use Rattle.log_contents.proofs.CountLemmas.{kept-again, kept-first}

-- where a kind is among some names
abbrev IsAt : List ℕ → List (List ℕ) → ℕ → Type 0
IsAt kind names i = (i < length names) × (same_name kind (get_or names i []) ≡ true)

low-more : (i n : ℕ) → i < n → suc i < suc n
low-more i n lt = omega (arith, lt)

first-index : (kind name : List ℕ) (names : List (List ℕ)) (b : Bool) → (list_any (same_name kind) names ≡ true → (i : ℕ) × IsAt kind names i) → same_name kind name ≡ b → (b || list_any (same_name kind) names) ≡ true → (i : ℕ) × IsAt kind (name ∷ names) i
first-index kind name names true rest is has = (0, (omega arith, is))
first-index kind name names false rest is has = let found = rest has in (suc found.0, (low-more found.0 (length names) found.1.0, found.1.1))

has-index : (kind : List ℕ) (names : List (List ℕ)) → list_any (same_name kind) names ≡ true → (i : ℕ) × IsAt kind names i
has-index kind [] has = absurd (cc has)
has-index kind (name ∷ names) has = first-index kind name names (same_name kind name) (has-index kind names) refl has

-- how many the counts of all kinds are
abbrev counted : List (List ℕ) → ℕ
counted kinds = sum (counts_of (distinct_names kinds) kinds)

one-more : (kinds : List (List ℕ)) (more : List ℕ) (b : Bool) → list_any (same_name more) (distinct_names kinds) ≡ b → counted (kinds ++ more ∷ []) ≡ counted kinds + 1
one-more kinds more true has =
    let names = distinct_names kinds in
    let counts = counts_of names kinds in
    let found = has-index more names has in
    let at = found.0 in
    let kept = kept-again kinds more names counts (set counts at (get_or counts at 0 + 1)) at refl refl has found.1.0 found.1.1 refl in
    let long : length counts ≡ length names = length-map names (λ (kind : List ℕ). count_of_kind kind kinds) in
    let within : at < length names = found.1.0 in
    let inside : at < length counts = omega (arith, within, long) in
    let total = sum_by-set (λ (n : ℕ). n) counts at (get_or counts at 0 + 1) 0 inside in
    ap sum (sym kept.1) ∙ omega (arith, total)
one-more kinds more false lacks =
    let names = distinct_names kinds in
    let counts = counts_of names kinds in
    let kept = kept-first kinds more names (names ++ more ∷ []) counts (counts ++ 1 ∷ []) refl refl lacks refl refl in
    ap sum (sym kept.1) ∙ sum_by_push (λ (n : ℕ). n) counts 1

counted-on : (front more : List (List ℕ)) → counted (front ++ more) ≡ counted front + length more
counted-on front [] =
    let none : counted front ≡ counted front + 0 = omega arith in
    ap counted (append-nil front) ∙ none
counted-on front (kind ∷ more) =
    let rest = counted-on (front ++ kind ∷ []) more in
    let one = one-more front kind (list_any (same_name kind) (distinct_names front)) refl in
    let same : counted (front ++ kind ∷ more) ≡ counted ((front ++ kind ∷ []) ++ more) = ap counted (sym (append_assoc front (kind ∷ []) more)) in
    omega (arith, rest, one, same)

pub all-counted : (kinds : List (List ℕ)) → counted kinds ≡ length kinds
all-counted kinds = let all : counted kinds ≡ 0 + length kinds = counted-on [] kinds in omega (arith, all)
