-- A day with one record more: its symbol is met, and what is kept of each symbol of the share goes on.
use Rattle.std.proofs.Common.{◌≡◌, ◌<◌, ℕ, Bool, true, false, Option, Some, None, List, [], ◌∷◌, ◌++◌, All, cond, length, refl, sym, ap, subst, ◌∙◌, arith}
use Rattle.std.specs.Prelude.{option_and_then, option_map, position, slice_get, unwrap_or, if◌then◌else◌}
use Rattle.std.specs.List.{list_any, Contains}
use Rattle.std.proofs.Math.ListN.{set}
use Rattle.std.proofs.lemmas.List.Elements.{All-weaker}
use Rattle.std.proofs.lemmas.List.Folds.{list_any_at}
use Rattle.std.proofs.lemmas.List.Quantifiers.{position-Some}
use Rattle.std.proofs.lemmas.Option.{slice_get_within, slice_get-get_or, get_or_from_slice_get}
use Rattle.audit_base.specs.Names.{is_name}
use Rattle.audit_base.specs.Orders.{same_name}
use Rattle.day_symbols.specs.Shares.{DayShare, indices_in, is_in_share, is_looked_at, index_in_share, symbols_in}
use Rattle.day_symbols.specs.Kept.{AreForEach, HasRoomAt}
use Rattle.day_symbols.specs.Symbols.{distinct_names}
use Rattle.day_symbols.proofs.KeptLemmas.{AreAtPlaces, OthersStay, at-places, for-each, met-inside, met-outside, one-index, taken-inside, taken-outside}
use Rattle.day_symbols.proofs.PlaceLemmas.{got-last, place-at}
use Rattle.day_symbols.proofs.SymbolLemmas.{distinct-all, distinct-more, distinct-once, is-same, same-is}

-- The symbols with one name more, by whether it is among them.

distinct-known : (names : List (List ℕ)) (own : List ℕ) → list_any (same_name own) (distinct_names names) ≡ true → distinct_names (names ++ own ∷ []) ≡ distinct_names names
distinct-known names own is = distinct-more names own ∙ ap (λ (b : Bool). cond b (distinct_names names) (distinct_names names ++ own ∷ [])) is

distinct-new : (names : List (List ℕ)) (own : List ℕ) → list_any (same_name own) (distinct_names names) ≡ false → distinct_names (names ++ own ∷ []) ≡ distinct_names names ++ own ∷ []
distinct-new names own is = distinct-more names own ∙ ap (λ (b : Bool). cond b (distinct_names names) (distinct_names names ++ own ∷ [])) is

-- one that is at an index is among them
among-at : (symbols : List (List ℕ)) (own : List ℕ) (index : ℕ) → slice_get symbols index ≡ Some own → list_any (same_name own) symbols ≡ true
among-at symbols own index got =
    list_any_at (same_name own) symbols index [] (slice_get_within symbols index own got) (is-same own _ (sym (get_or_from_slice_get symbols index own [] got)))

-- one that they contain is among them
among-of : (symbols : List (List ℕ)) (own : List ℕ) → Contains symbols own → list_any (same_name own) symbols ≡ true
among-of symbols own has = list_any_at (same_name own) symbols has.0 own has.1 (is-same own _ (sym has.2))

-- a name that is met again is where it was
pub known-at : (names : List (List ℕ)) (own : List ℕ) (index : ℕ) → slice_get (distinct_names names) index ≡ Some own → distinct_names (names ++ own ∷ []) ≡ distinct_names names
known-at names own index got = distinct-known names own (among-at (distinct_names names) own index got)

-- a name that was not met before comes last
new-at : (names : List (List ℕ)) (own : List ℕ) (index : ℕ) → list_any (same_name own) (distinct_names names) ≡ false → slice_get (distinct_names (names ++ own ∷ [])) index ≡ Some own → index ≡ length (distinct_names names)
new-at names own index is got =
    let last : slice_get (distinct_names (names ++ own ∷ [])) (length (distinct_names names)) ≡ Some own =
    ap (λ (s : List (List ℕ)). slice_get s (length (distinct_names names))) (distinct-new names own is) ∙ got-last (distinct_names names) own in
    one-index (distinct_names (names ++ own ∷ [])) (distinct-once (names ++ own ∷ [])) index (length (distinct_names names)) own got last

-- a name that is not among the distinct ones is none of them
pub absent-all : (names : List (List ℕ)) (own : List ℕ) → list_any (same_name own) (distinct_names names) ≡ false → All (λ (name : List ℕ). same_name name own ≡ false) names
absent-all names own none =
    All-weaker (Contains (distinct_names names)) (λ (name : List ℕ). same_name name own ≡ false) absent names (distinct-all names)
  where
    absent : (name : List ℕ) → Contains (distinct_names names) name → same_name name own ≡ false
    absent name has = go (same_name name own) refl
      where
        go : (b : Bool) → same_name name own ≡ b → same_name name own ≡ false
        go false is = is
        go true is =
            let there : Contains (distinct_names names) own = subst (Contains (distinct_names names)) (same-is name own is) has in
            let among : list_any (same_name own) (distinct_names names) ≡ true = among-of (distinct_names names) own there in
            cc

-- One record more.

-- its symbol is outside the share
pub outside-step : {X : Type 0} (P Q : List ℕ → X → Type 0) (share : DayShare) (names : List (List ℕ)) (own : List ℕ) (kept : List X) (index : ℕ)
    → OthersStay own P Q → slice_get (distinct_names (names ++ own ∷ [])) index ≡ Some own → is_in_share share index ≡ false
    → AreForEach P (symbols_in share (distinct_names names)) kept → AreForEach Q (symbols_in share (distinct_names (names ++ own ∷ []))) kept
outside-step {X} P Q share names own kept index stay got outside are =
    for-each Q share (distinct_names (names ++ own ∷ [])) kept
    (taken-outside P Q share (distinct_names (names ++ own ∷ [])) kept index own (distinct-once (names ++ own ∷ [])) got outside stay (met (list_any (same_name own) (distinct_names names)) refl))
  where
    met : (b : Bool) → list_any (same_name own) (distinct_names names) ≡ b → AreAtPlaces P share (distinct_names (names ++ own ∷ [])) kept
    met true is = subst (λ (s : List (List ℕ)). AreAtPlaces P share s kept) (sym (distinct-known names own is)) (at-places P share (distinct_names names) kept are)
    met false is = subst (λ (s : List (List ℕ)). AreAtPlaces P share s kept) (sym (distinct-new names own is))
        (met-outside P share (distinct_names names) kept own (ap (is_in_share share) (sym (new-at names own index is got)) ∙ outside) (at-places P share (distinct_names names) kept are))

-- its symbol is of the share, and has its place
pub room-met : {X : Type 0} (P : List ℕ → X → Type 0) (Fresh : X → Type 0) (share : DayShare) (names : List (List ℕ)) (own : List ℕ) (old room : List X) (index : ℕ)
    → (All (λ (name : List ℕ). same_name name own ≡ false) names → (one : X) → Fresh one → P own one)
    → slice_get (distinct_names (names ++ own ∷ [])) index ≡ Some own → is_in_share share index ≡ true → HasRoomAt Fresh (index_in_share share index) old room
    → AreForEach P (symbols_in share (distinct_names names)) old → AreAtPlaces P share (distinct_names (names ++ own ∷ [])) room
room-met {X} P Fresh share names own old room index starts got inside makes are =
    met (list_any (same_name own) (distinct_names names)) refl
  where
    places : AreAtPlaces P share (distinct_names names) old
    places = at-places P share (distinct_names names) old are

    met : (b : Bool) → list_any (same_name own) (distinct_names names) ≡ b → AreAtPlaces P share (distinct_names (names ++ own ∷ [])) room
    met true is =
        let stands : slice_get (distinct_names names) index ≡ Some own = ap (λ (s : List (List ℕ)). slice_get s index) (sym (distinct-known names own is)) ∙ got in
        let at : slice_get (indices_in share (length (distinct_names names))) (index_in_share share index) ≡ Some index = place-at share (length (distinct_names names)) index inside (slice_get_within (distinct_names names) index own stands) in
        let within : index_in_share share index < index_in_share share (length (distinct_names names)) = slice_get_within (indices_in share (length (distinct_names names))) (index_in_share share index) index at in
        let same : room ≡ old = makes.as_it_was (λ last. omega (arith, within, last, places.count)) in
        subst (λ (s : List (List ℕ)). AreAtPlaces P share s room) (sym (distinct-known names own is)) (subst (λ (xs : List X). AreAtPlaces P share (distinct_names names) xs) (sym same) places)
    met false is =
        let last : index ≡ length (distinct_names names) = new-at names own index is got in
        let more = makes.one_more (ap (index_in_share share) last ∙ sym places.count) in
        subst (λ (s : List (List ℕ)). AreAtPlaces P share s room) (sym (distinct-new names own is))
        (subst (λ (xs : List X). AreAtPlaces P share (distinct_names names ++ own ∷ []) xs) (sym more.last)
        (met-inside P share (distinct_names names) old own more.one (ap (is_in_share share) (sym last) ∙ inside) (starts (absent-all names own is) more.one more.fresh) places))

-- there is one at its place
pub room-within : {X : Type 0} (P : List ℕ → X → Type 0) (share : DayShare) (symbols : List (List ℕ)) (own : List ℕ) (room : List X) (index : ℕ)
    → slice_get symbols index ≡ Some own → is_in_share share index ≡ true → AreAtPlaces P share symbols room → index_in_share share index < length room
room-within P share symbols own room index got inside places =
    let at : slice_get (indices_in share (length symbols)) (index_in_share share index) ≡ Some index = place-at share (length symbols) index inside (slice_get_within symbols index own got) in
    let within : index_in_share share index < index_in_share share (length symbols) = slice_get_within (indices_in share (length symbols)) (index_in_share share index) index at in
    omega (arith, within, places.count)

-- and it has taken the record
pub inside-step : {X : Type 0} (P Q : List ℕ → X → Type 0) (share : DayShare) (names : List (List ℕ)) (own : List ℕ) (room : List X) (index : ℕ) (was now : X)
    → OthersStay own P Q → slice_get (distinct_names (names ++ own ∷ [])) index ≡ Some own → is_in_share share index ≡ true → slice_get room (index_in_share share index) ≡ Some was → (P own was → Q own now)
    → AreAtPlaces P share (distinct_names (names ++ own ∷ [])) room → AreForEach Q (symbols_in share (distinct_names (names ++ own ∷ []))) (set room (index_in_share share index) now)
inside-step P Q share names own room index was now stay got inside there takes places =
    for-each Q share (distinct_names (names ++ own ∷ [])) (set room (index_in_share share index) now)
    (taken-inside P Q share (distinct_names (names ++ own ∷ [])) room index own was now (distinct-once (names ++ own ∷ [])) got inside stay there takes places)

-- Records that are not looked at.

-- the symbol was met before, and is outside the share
pub record IsOutside (share : DayShare) (symbols : List (List ℕ)) (own : List ℕ) : Type 0 where
  pub index : ℕ
  pub got : slice_get symbols index ≡ Some own
  pub outside : is_in_share share index ≡ false

pub passed-over : (share : DayShare) (symbols : List (List ℕ)) (own : List ℕ) → is_looked_at share symbols own ≡ false → IsOutside share symbols own
passed-over share symbols own passed = named (is_name own) passed
  where
    at : (o : Option ℕ) → position (same_name own) symbols ≡ o → unwrap_or (option_map (is_in_share share) o) true ≡ false → IsOutside share symbols own
    at None none is = absurd cc
    at (Some index) found is =
        let passes = position-Some (same_name own) symbols index [] found in
        record {
          index = index;
          got = slice_get-get_or symbols index [] passes.0 ∙ ap (λ (s : List ℕ). Some s) (sym (same-is own _ passes.1));
          outside = is;
        }

    named : (b : Bool) → unwrap_or (option_map (is_in_share share) (option_and_then (λ (name : List ℕ). position (same_name name) symbols) (if b then Some own else None))) true ≡ false → IsOutside share symbols own
    named true is = at (position (same_name own) symbols) refl is
    named false is = absurd cc
