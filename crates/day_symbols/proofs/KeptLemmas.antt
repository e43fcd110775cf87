-- What is kept of each symbol of a share, with one record more.
use Rattle.std.proofs.Common.{◌≡◌, ◌≢◌, ◌<◌, ◌≤◌, ◌+◌, ℕ, zero, suc, Bool, true, false, Option, Some, None, List, [], ◌∷◌, ◌++◌, inl, inr, length, length-append, refl, sym, ap, subst, ◌∙◌, arith, ◌*◌, ◌-◌, ◌/◌, ◌%◌, get_or}
use Rattle.std.specs.Prelude.{option_map, slice_get}
use Rattle.std.specs.List.{AllPairs, slice_index_or}
use Rattle.std.proofs.Math.ListN.{set}
use Rattle.std.proofs.lemmas.Bool.{cases_eq, cases_lt, cases_order, eqb-true}
use Rattle.std.proofs.lemmas.Nat.{div-add-mod'}
use Rattle.std.proofs.lemmas.List.{length-map, length-set}
use Rattle.std.proofs.lemmas.Option.{none-some, same_Some, slice_get_within, slice_get-map, slice_get-get_or, get_or_from_slice_get}
use Rattle.audit_base.specs.Orders.{same_name}
use Rattle.day_symbols.specs.Shares.{DayShare, IsDayShare, indices_in, is_in_share, index_in_share, symbols_in}
use Rattle.day_symbols.specs.Kept.{AreForEach}
use Rattle.day_symbols.proofs.PlaceLemmas.{IsIndexAt, got-left, got-last, index-at, place-at, place-more, place-same, place-is}
use Rattle.day_symbols.proofs.SymbolLemmas.{same-is}

-- the same by the indices of all symbols: what is kept of a symbol of the share is at its place
pub record AreAtPlaces {X : Type 0} (P : List ℕ → X → Type 0) (share : DayShare) (symbols : List (List ℕ)) (kept : List X) : Type 0 where
  pub count : length kept ≡ index_in_share share (length symbols)
  pub each : (i : ℕ) (symbol : List ℕ) (one : X) → is_in_share share i ≡ true → slice_get symbols i ≡ Some symbol → slice_get kept (index_in_share share i) ≡ Some one → P symbol one

-- the symbol of an index of the share is at its place
shared-at : (share : DayShare) (symbols : List (List ℕ)) (i : ℕ) (symbol : List ℕ) → is_in_share share i ≡ true → slice_get symbols i ≡ Some symbol → slice_get (symbols_in share symbols) (index_in_share share i) ≡ Some symbol
shared-at share symbols i symbol is got =
    slice_get-map (λ (index : ℕ). slice_index_or symbols index []) (indices_in share (length symbols)) (index_in_share share i)
    ∙ ap (option_map (λ (index : ℕ). slice_index_or symbols index [])) (place-at share (length symbols) i is (slice_get_within symbols i symbol got))
    ∙ ap (λ (s : List ℕ). Some s) (get_or_from_slice_get symbols i symbol [] got)

-- a symbol of a share by its index
record IsSharedAt (share : DayShare) (symbols : List (List ℕ)) (j i : ℕ) (symbol : List ℕ) : Type 0 where
  at : IsIndexAt share (length symbols) j i
  got : slice_get symbols i ≡ Some symbol

-- each symbol of the share has its index
index-of : (share : DayShare) (symbols : List (List ℕ)) (j : ℕ) (symbol : List ℕ) → slice_get (symbols_in share symbols) j ≡ Some symbol → (i : ℕ) × IsSharedAt share symbols j i symbol
index-of share symbols j symbol got =
    found (slice_get (indices_in share (length symbols)) j) refl (sym (slice_get-map (λ (index : ℕ). slice_index_or symbols index []) (indices_in share (length symbols)) j) ∙ got)
  where
    found : (o : Option ℕ) → slice_get (indices_in share (length symbols)) j ≡ o → option_map (λ (index : ℕ). slice_index_or symbols index []) o ≡ Some symbol → (i : ℕ) × IsSharedAt share symbols j i symbol
    found None is none = absurd (none-some symbol none)
    found (Some i) is some =
        let at = index-at share (length symbols) j i is in
        (i, record { at = at; got = slice_get-get_or symbols i [] at.inside ∙ some })

length-shared : (share : DayShare) (symbols : List (List ℕ)) → length (symbols_in share symbols) ≡ index_in_share share (length symbols)
length-shared share symbols = length-map (indices_in share (length symbols)) (λ (index : ℕ). slice_index_or symbols index [])

pub at-places : {X : Type 0} (P : List ℕ → X → Type 0) (share : DayShare) (symbols : List (List ℕ)) (kept : List X) → AreForEach P (symbols_in share symbols) kept → AreAtPlaces P share symbols kept
at-places P share symbols kept are = record {
  count = are.same_length ∙ length-shared share symbols;
  each = λ i symbol one is got there. are.each (index_in_share share i) symbol one (shared-at share symbols i symbol is got) there;
}

pub for-each : {X : Type 0} (P : List ℕ → X → Type 0) (share : DayShare) (symbols : List (List ℕ)) (kept : List X) → AreAtPlaces P share symbols kept → AreForEach P (symbols_in share symbols) kept
for-each {X} P share symbols kept are = record {
  same_length = are.count ∙ sym (length-shared share symbols);
  each = λ j symbol one got there.
      let found = index-of share symbols j symbol got in
      let is = found.1 in
      are.each found.0 symbol one is.at.shared is.got (subst (λ (k : ℕ). slice_get kept k ≡ Some one) (sym is.at.place) there);
}

-- Members of a list of which one is set.

set-got : {X : Type 0} (xs : List X) (i : ℕ) (y x : X) → slice_get (set xs i y) i ≡ Some x → y ≡ x
set-got [] i y x got = absurd (none-some x got)
set-got (z ∷ xs) zero y x got = same_Some y x got
set-got (z ∷ xs) (suc i) y x got = set-got xs i y x got

set-apart : {X : Type 0} (xs : List X) (i j : ℕ) (y : X) → (i ≡ j → ⊥) → slice_get (set xs i y) j ≡ slice_get xs j
set-apart [] i j y apart = refl
set-apart (z ∷ xs) zero zero y apart = absurd (apart refl)
set-apart (z ∷ xs) zero (suc j) y apart = refl
set-apart (z ∷ xs) (suc i) zero y apart = refl
set-apart (z ∷ xs) (suc i) (suc j) y apart = set-apart xs i j y (λ same. apart (ap (λ (k : ℕ). suc k) same))

-- two indices of one place are one
one-place : (share : DayShare) (i j : ℕ) → is_in_share share i ≡ true → is_in_share share j ≡ true → index_in_share share i ≡ index_in_share share j → i ≡ j
one-place share i j is-i is-j same =
    let n : ℕ = i + j + 1 in
    same_Some i j (sym (place-at share n i is-i (omega arith)) ∙ ap (slice_get (indices_in share n)) same ∙ place-at share n j is-j (omega arith))

-- no symbol is there twice
pub one-index : (symbols : List (List ℕ)) → AllPairs (λ (a b : List ℕ). a ≢ b) symbols → (i j : ℕ) (symbol : List ℕ) → slice_get symbols i ≡ Some symbol → slice_get symbols j ≡ Some symbol → i ≡ j
one-index symbols once i j symbol got-i got-j = elim (cases_order i j) as (λ _. i ≡ j) [
  | inl same ↦ same
  | inr (inl less) ↦ absurd (once i j [] less (slice_get_within symbols j symbol got-j) (get_or_from_slice_get symbols i symbol [] got-i ∙ sym (get_or_from_slice_get symbols j symbol [] got-j)))
  | inr (inr more) ↦ absurd (once j i [] more (slice_get_within symbols i symbol got-i) (get_or_from_slice_get symbols j symbol [] got-j ∙ sym (get_or_from_slice_get symbols i symbol [] got-i)))
]

-- One record more.

-- of another symbol than this one what was kept stays
abbrev pub OthersStay : {X : Type 0} → List ℕ → (List ℕ → X → Type 0) → (List ℕ → X → Type 0) → Type 0
OthersStay {X} own P Q = (symbol : List ℕ) (one : X) → same_name own symbol ≡ false → P symbol one → Q symbol one

-- a name is another one, where it is at another index
other-index : (symbols : List (List ℕ)) → AllPairs (λ (a b : List ℕ). a ≢ b) symbols → (i j : ℕ) (own symbol : List ℕ) → slice_get symbols i ≡ Some own → slice_get symbols j ≡ Some symbol → (i ≡ j → ⊥) → same_name own symbol ≡ false
other-index symbols once i j own symbol got-i got-j apart = go (same_name own symbol) refl
  where
    go : (b : Bool) → same_name own symbol ≡ b → same_name own symbol ≡ false
    go false is = is
    go true is = absurd (apart (one-index symbols once i j symbol (got-i ∙ ap (λ (s : List ℕ). Some s) (same-is own symbol is)) got-j))

-- a record of a symbol outside the share
pub taken-outside : {X : Type 0} (P Q : List ℕ → X → Type 0) (share : DayShare) (symbols : List (List ℕ)) (kept : List X) (index : ℕ) (own : List ℕ)
    → AllPairs (λ (a b : List ℕ). a ≢ b) symbols → slice_get symbols index ≡ Some own → is_in_share share index ≡ false → OthersStay own P Q
    → AreAtPlaces P share symbols kept → AreAtPlaces Q share symbols kept
taken-outside P Q share symbols kept index own once got outside stay are = record {
  count = are.count;
  each = λ i symbol one is there stands.
      let apart : index ≡ i → ⊥ = λ same. let in_it : is_in_share share index ≡ true = ap (is_in_share share) same ∙ is in cc in
      stay symbol one (other-index symbols once index i own symbol got there apart) (are.each i symbol one is there stands);
}

-- a record of a symbol of the share, of which something else is kept then
pub taken-inside : {X : Type 0} (P Q : List ℕ → X → Type 0) (share : DayShare) (symbols : List (List ℕ)) (kept : List X) (index : ℕ) (own : List ℕ) (old new : X)
    → AllPairs (λ (a b : List ℕ). a ≢ b) symbols → slice_get symbols index ≡ Some own → is_in_share share index ≡ true → OthersStay own P Q
    → slice_get kept (index_in_share share index) ≡ Some old → (P own old → Q own new)
    → AreAtPlaces P share symbols kept → AreAtPlaces Q share symbols (set kept (index_in_share share index) new)
taken-inside {X} P Q share symbols kept index own old new once got inside stay was takes are = record {
  count = length-set kept (index_in_share share index) new ∙ are.count;
  each = each;
}
  where
    each : (i : ℕ) (symbol : List ℕ) (one : X) → is_in_share share i ≡ true → slice_get symbols i ≡ Some symbol → slice_get (set kept (index_in_share share index) new) (index_in_share share i) ≡ Some one → Q symbol one
    each i symbol one is there stands = elim (cases_eq index i) as (λ _. Q symbol one) [
      | inl same ↦
          let at : index_in_share share i ≡ index_in_share share index = ap (index_in_share share) (sym same) in
          let one-is : new ≡ one = set-got kept (index_in_share share index) new one (ap (slice_get (set kept (index_in_share share index) new)) (sym at) ∙ stands) in
          let own-is : own ≡ symbol = same_Some own symbol (sym got ∙ ap (slice_get symbols) same ∙ there) in
          subst (λ (s : List ℕ). Q s one) own-is (subst (λ (x : X). Q own x) one-is (takes (are.each index own old inside got was)))
      | inr apart ↦
          let places : index_in_share share index ≡ index_in_share share i → ⊥ = λ same. apart (one-place share index i inside is same) in
          let stood : slice_get kept (index_in_share share i) ≡ Some one = sym (set-apart kept (index_in_share share index) (index_in_share share i) new places) ∙ stands in
          stay symbol one (other-index symbols once index i own symbol got there apart) (are.each i symbol one is there stood)
    ]

-- A symbol more.

-- its share goes on without it
pub met-outside : {X : Type 0} (P : List ℕ → X → Type 0) (share : DayShare) (symbols : List (List ℕ)) (kept : List X) (more : List ℕ)
    → is_in_share share (length symbols) ≡ false → AreAtPlaces P share symbols kept → AreAtPlaces P share (symbols ++ more ∷ []) kept
met-outside {X} P share symbols kept more outside are = record {
  count = are.count ∙ sym (place-same share (length symbols) outside) ∙ ap (index_in_share share) next;
  each = λ i symbol one is there stands.
      let within : i < length (symbols ++ more ∷ []) = slice_get_within (symbols ++ more ∷ []) i symbol there in
      let apart : i ≡ length symbols → ⊥ = λ same. let in_it : is_in_share share (length symbols) ≡ true = ap (is_in_share share) (sym same) ∙ is in cc in
      let less : i < length symbols = below i apart (omega (arith, within, length-append symbols (more ∷ []))) in
      are.each i symbol one is (sym (got-left symbols (more ∷ []) i less) ∙ there) stands;
}
  where
    next : suc (length symbols) ≡ length (symbols ++ more ∷ [])
    next = omega (arith, length-append symbols (more ∷ []))

    below : (i : ℕ) → (i ≡ length symbols → ⊥) → i ≤ length symbols → i < length symbols
    below i apart le = elim (cases_lt i (length symbols)) as (λ _. i < length symbols) [ inl less ↦ less | inr more ↦ absurd (apart (omega (arith, more, le))) ]

-- it is of the share, and what is kept of it comes last
pub met-inside : {X : Type 0} (P : List ℕ → X → Type 0) (share : DayShare) (symbols : List (List ℕ)) (kept : List X) (more : List ℕ) (fresh : X)
    → is_in_share share (length symbols) ≡ true → P more fresh → AreAtPlaces P share symbols kept → AreAtPlaces P share (symbols ++ more ∷ []) (kept ++ fresh ∷ [])
met-inside {X} P share symbols kept more fresh inside has are = record {
  count = length-append kept (fresh ∷ []) ∙ ap (λ (k : ℕ). k + 1) are.count ∙ sym (place-more share (length symbols) inside) ∙ ap (index_in_share share) next;
  each = each;
}
  where
    next : suc (length symbols) ≡ length (symbols ++ more ∷ [])
    next = omega (arith, length-append symbols (more ∷ []))

    each : (i : ℕ) (symbol : List ℕ) (one : X) → is_in_share share i ≡ true → slice_get (symbols ++ more ∷ []) i ≡ Some symbol → slice_get (kept ++ fresh ∷ []) (index_in_share share i) ≡ Some one → P symbol one
    each i symbol one is there stands = elim (cases_lt i (length symbols)) as (λ _. P symbol one) [
      | inl less ↦
          let before : index_in_share share i < length kept = subst (λ (k : ℕ). index_in_share share i < k) (sym are.count) (slice_get_within (indices_in share (length symbols)) (index_in_share share i) i (place-at share (length symbols) i is less)) in
          are.each i symbol one is (sym (got-left symbols (more ∷ []) i less) ∙ there) (sym (got-left kept (fresh ∷ []) (index_in_share share i) before) ∙ stands)
      | inr le ↦
          let within : i < length (symbols ++ more ∷ []) = slice_get_within (symbols ++ more ∷ []) i symbol there in
          let last : length symbols ≡ i = omega (arith, le, within, length-append symbols (more ∷ [])) in
          let symbol-is : more ≡ symbol = same_Some more symbol (sym (got-last symbols more) ∙ ap (slice_get (symbols ++ more ∷ [])) last ∙ there) in
          let at : length kept ≡ index_in_share share i = are.count ∙ ap (index_in_share share) last in
          let one-is : fresh ≡ one = same_Some fresh one (sym (got-last kept fresh) ∙ ap (slice_get (kept ++ fresh ∷ [])) at ∙ stands) in
          subst (λ (s : List ℕ). P s one) symbol-is (subst (λ (x : X). P more x) one-is has)
    ]

-- the symbol at a place of the share
pub record IsSymbolAt (share : DayShare) (symbols : List (List ℕ)) (place : ℕ) : Type 0 where
  pub within : place * share.count + (share.number - 1) < length symbols
  pub is : slice_get (symbols_in share symbols) place ≡ slice_get symbols (place * share.count + (share.number - 1))

pub symbol-at : (share : DayShare) (symbols : List (List ℕ)) (place : ℕ) → IsDayShare share → place < length (symbols_in share symbols) → IsSymbolAt share symbols place
symbol-at share symbols place shares lt =
    let found = index-of share symbols place (get_or (symbols_in share symbols) place []) (slice_get-get_or (symbols_in share symbols) place [] lt) in
    let is = found.1 in
    let quotient : place ≡ found.0 / share.count = sym is.at.place ∙ place-is share found.0 shares is.at.shared in
    let rest : found.0 % share.count ≡ share.number - 1 = eqb-true (found.0 % share.count) (share.number - 1) is.at.shared in
    let index : place * share.count + (share.number - 1) ≡ found.0 =
    ap (λ (k : ℕ). k * share.count + (share.number - 1)) quotient ∙ ap (λ (k : ℕ). found.0 / share.count * share.count + k) (sym rest) ∙ div-add-mod' found.0 share.count in
    record {
      within = omega (arith, index, is.at.inside);
      is = slice_get-get_or (symbols_in share symbols) place [] lt ∙ sym is.got ∙ ap (slice_get symbols) (sym index);
    }
