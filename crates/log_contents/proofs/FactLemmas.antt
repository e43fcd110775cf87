-- What is known of some records: one record more.
use Rattle.std.proofs.Common.{◌≡◌, ℕ, ◌+◌, List, [], ◌∷◌, ◌++◌, length, map, refl, sym, ap, subst, ◌∙◌, arith}
use Rattle.std.proofs.lemmas.List.{length-append}
use Rattle.audit_base.specs.Moments.{Moment}
use Rattle.day_symbols.specs.Symbols.{distinct_names}
use Rattle.log_contents.specs.Facts.{AreFactsOf, AreWithin}
use Rattle.log_contents.specs.declared.record_facts.RecordFacts.{RecordFacts}

pub map-more : {X Y : Type 0} (f : X → Y) (xs : List X) (x : X) → map f (xs ++ x ∷ []) ≡ map f xs ++ f x ∷ []
map-more f [] x = refl
map-more f (y ∷ xs) x = ap (λ (l : List _). f y ∷ l) (map-more f xs x)

pub facts-more : {R : Type 0} (symbol_of : R → List ℕ) (time_of : R → Moment) (old new : RecordFacts R) (entries : List R) (entry : R) (symbol : List ℕ) (time : Moment) → symbol ≡ symbol_of entry → time ≡ time_of entry
    → AreFactsOf symbol_of time_of old entries → new.count ≡ old.count + 1 → new.symbols ≡ distinct_names (map symbol_of entries ++ symbol ∷ []) → AreWithin (map time_of entries ++ time ∷ []) new.times
    → AreFactsOf symbol_of time_of new (entries ++ entry ∷ [])
facts-more symbol_of time_of old new entries entry symbol time is-symbol is-time has count symbols times =
    let was = has.count in
    let longer = length-append entries (entry ∷ []) in
    let all-symbols : map symbol_of entries ++ symbol ∷ [] ≡ map symbol_of (entries ++ entry ∷ []) =
    ap (λ (s : List ℕ). map symbol_of entries ++ s ∷ []) is-symbol ∙ sym (map-more symbol_of entries entry) in
    let all-times : map time_of entries ++ time ∷ [] ≡ map time_of (entries ++ entry ∷ []) =
    ap (λ (t : Moment). map time_of entries ++ t ∷ []) is-time ∙ sym (map-more time_of entries entry) in
    record {
      count = omega (arith, count, was, longer);
      symbols = symbols ∙ ap distinct_names all-symbols;
      times = subst (λ (l : List Moment). AreWithin l new.times) all-times times;
    }
