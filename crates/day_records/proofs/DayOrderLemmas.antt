-- The records of a day with one more.
use Rattle.std.proofs.Common.{◌≡◌, ◌<◌, ◌+◌, ℕ, Bool, true, false, Some, List, [], ◌∷◌, ◌++◌, All, length, refl, sym, ap, subst, ◌∙◌}
use Rattle.std.specs.Prelude.{map, slice_get}
use Rattle.std.proofs.Math.ListN.{set}
use Rattle.std.proofs.lemmas.List.{map-append}
use Rattle.audit_base.specs.declared.records.OrderRecord.{OrderRecord}
use Rattle.audit_base.specs.Histories.{history, symbol_of}
use Rattle.audit_base.specs.Orders.{same_name}
use Rattle.day_symbols.specs.Kept.{HasRoomAt}
use Rattle.day_symbols.specs.Shares.{DayShare, is_in_share, index_in_share, symbols_in}
use Rattle.day_symbols.specs.Symbols.{distinct_names}
use Rattle.day_symbols.proofs.KeptLemmas.{AreAtPlaces, OthersStay}
use Rattle.day_symbols.proofs.MetLemmas.{inside-step, outside-step, room-met, room-within}
use Rattle.day_symbols.proofs.SymbolLemmas.{is-same}
use Rattle.day_records.specs.DayOrders.{HasHistory, HaveHistories, IsEmptyOf, order_symbols}
use Rattle.day_records.specs.KeptOrders.{KeptEntries, with_entry}
use Rattle.day_records.proofs.NumberedLemmas.{left-more, left-same, none-left}

-- a record of the symbol
abbrev of_symbol : List ℕ → ℕ × OrderRecord → Bool
of_symbol symbol e = same_name (symbol_of e.1) symbol

-- the symbol with these records
abbrev kept_with : List ℕ → List (ℕ × OrderRecord) → KeptEntries
kept_with symbol records = record { symbol = symbol; entries = records }

-- the symbols with one record more
pub symbols-more : (entries : List OrderRecord) (entry : OrderRecord) → order_symbols (entries ++ entry ∷ []) ≡ distinct_names (map symbol_of entries ++ symbol_of entry ∷ [])
symbols-more entries entry = ap distinct_names (map-append symbol_of entries (entry ∷ []))

-- of another symbol the history stays
others-stay : (entries : List OrderRecord) (entry : OrderRecord) → OthersStay (symbol_of entry) (HasHistory entries) (HasHistory (entries ++ entry ∷ []))
others-stay entries entry symbol one other is = is ∙ ap (kept_with symbol) (sym (left-same (of_symbol symbol) entries entry other))

-- a symbol that none of the records has is kept with its history where it is kept without any
pub empty-history : (symbol : List ℕ) (kept : KeptEntries) (entries : List OrderRecord) → All (λ (name : List ℕ). same_name name symbol ≡ false) (map symbol_of entries)
    → IsEmptyOf symbol kept → HasHistory entries symbol kept
empty-history symbol kept entries others empty = empty ∙ ap (kept_with symbol) (sym (none-left symbol_of symbol 1 entries others))

-- of its own symbol there is one record more
own-more : (entries : List OrderRecord) (entry : OrderRecord) (was now : KeptEntries) (place : ℕ) → place ≡ length entries + 1 → now ≡ with_entry was place entry → HasHistory entries (symbol_of entry) was → HasHistory (entries ++ entry ∷ []) (symbol_of entry) now
own-more entries entry was now place at takes is =
    let own : List ℕ = symbol_of entry in
    takes
    ∙ ap (λ (kept : KeptEntries). with_entry kept place entry) is
    ∙ ap (λ (n : ℕ). kept_with own (history own entries ++ (n, entry) ∷ [])) at
    ∙ ap (kept_with own) (sym (left-more (of_symbol own) entries entry (is-same own own refl)))

-- a record of a symbol outside the share
pub outside-more : (share : DayShare) (kept : List KeptEntries) (entries : List OrderRecord) (entry : OrderRecord) (index : ℕ)
    → slice_get (distinct_names (map symbol_of entries ++ symbol_of entry ∷ [])) index ≡ Some (symbol_of entry) → is_in_share share index ≡ false
    → HaveHistories (symbols_in share (order_symbols entries)) kept entries
    → HaveHistories (symbols_in share (order_symbols (entries ++ entry ∷ []))) kept (entries ++ entry ∷ [])
outside-more share kept entries entry index got outside are =
    subst (λ (symbols : List (List ℕ)). HaveHistories (symbols_in share symbols) kept (entries ++ entry ∷ [])) (sym (symbols-more entries entry))
    (outside-step (HasHistory entries) (HasHistory (entries ++ entry ∷ [])) share (map symbol_of entries) (symbol_of entry) kept index (others-stay entries entry) got outside are)

-- the symbol of a record was met, and what is kept of it is at this index
pub record IsRecordMet (share : DayShare) (entries : List OrderRecord) (entry : OrderRecord) (room : List KeptEntries) (index place : ℕ) : Type 0 where
  pub got : slice_get (distinct_names (map symbol_of entries ++ symbol_of entry ∷ [])) index ≡ Some (symbol_of entry)
  pub inside : is_in_share share index ≡ true
  pub at : place ≡ index_in_share share index
  pub places : AreAtPlaces (HasHistory entries) share (distinct_names (map symbol_of entries ++ symbol_of entry ∷ [])) room
  pub within : place < length room

pub met-inside : (share own_share : DayShare) (old room : List KeptEntries) (entries : List OrderRecord) (entry : OrderRecord) (symbols new : List (List ℕ)) (own : List ℕ) (index place : ℕ)
    → own_share ≡ share → symbols ≡ order_symbols entries → ((names : List (List ℕ)) → symbols ≡ distinct_names names → new ≡ distinct_names (names ++ own ∷ [])) → own ≡ symbol_of entry
    → slice_get new index ≡ Some own → is_in_share own_share index ≡ true → place ≡ index_in_share own_share index → HasRoomAt (IsEmptyOf own) place old room
    → HaveHistories (symbols_in share (order_symbols entries)) old entries → IsRecordMet share entries entry room index place
met-inside share own_share old room entries entry symbols new own index place shared symbols_are meets own_is there inside at makes are =
    let met : new ≡ distinct_names (map symbol_of entries ++ symbol_of entry ∷ []) = meets (map symbol_of entries) symbols_are ∙ ap (λ (s : List ℕ). distinct_names (map symbol_of entries ++ s ∷ [])) own_is in
    let got : slice_get (distinct_names (map symbol_of entries ++ symbol_of entry ∷ [])) index ≡ Some (symbol_of entry) =
    ap (λ (s : List (List ℕ)). slice_get s index) (sym met) ∙ there ∙ ap (λ (s : List ℕ). Some s) own_is in
    let inside_it : is_in_share share index ≡ true = ap (λ (s : DayShare). is_in_share s index) (sym shared) ∙ inside in
    let at_it : place ≡ index_in_share share index = at ∙ ap (λ (s : DayShare). index_in_share s index) shared in
    let makes_it : HasRoomAt (IsEmptyOf (symbol_of entry)) (index_in_share share index) old room =
    subst (λ (k : ℕ). HasRoomAt (IsEmptyOf (symbol_of entry)) k old room) at_it (subst (λ (s : List ℕ). HasRoomAt (IsEmptyOf s) place old room) own_is makes) in
    let places = room-met (HasHistory entries) (IsEmptyOf (symbol_of entry)) share (map symbol_of entries) (symbol_of entry) old room index
    (λ others one empty. empty-history (symbol_of entry) one entries others empty) got inside_it makes_it are in
    record {
      got = got;
      inside = inside_it;
      at = at_it;
      places = places;
      within = subst (λ (k : ℕ). k < length room) (sym at_it) (room-within (HasHistory entries) share (distinct_names (map symbol_of entries ++ symbol_of entry ∷ [])) (symbol_of entry) room index got inside_it places);
    }

-- what is kept there is of the symbol of the record
pub is-own : (share : DayShare) (entries : List OrderRecord) (entry : OrderRecord) (room : List KeptEntries) (index place : ℕ) (was : KeptEntries)
    → IsRecordMet share entries entry room index place → slice_get room place ≡ Some was → symbol_of entry ≡ was.symbol
is-own share entries entry room index place was met there =
    sym (ap (λ (kept : KeptEntries). kept.symbol) (met.places.each index (symbol_of entry) was met.inside met.got (ap (slice_get room) (sym met.at) ∙ there)))

-- it has taken the record
pub has-taken : (share : DayShare) (entries : List OrderRecord) (entry : OrderRecord) (room : List KeptEntries) (index place number : ℕ) (was now : KeptEntries)
    → IsRecordMet share entries entry room index place → slice_get room place ≡ Some was → number ≡ length entries + 1 → now ≡ with_entry was number entry
    → HaveHistories (symbols_in share (order_symbols (entries ++ entry ∷ []))) (set room place now) (entries ++ entry ∷ [])
has-taken share entries entry room index place number was now met there at takes =
    let done = inside-step (HasHistory entries) (HasHistory (entries ++ entry ∷ [])) share (map symbol_of entries) (symbol_of entry) room index was now (others-stay entries entry)
    met.got met.inside (ap (slice_get room) (sym met.at) ∙ there) (λ is. own-more entries entry was now number at takes is) met.places in
    subst (λ (k : ℕ). HaveHistories (symbols_in share (order_symbols (entries ++ entry ∷ []))) (set room k now) (entries ++ entry ∷ [])) (sym met.at)
    (subst (λ (symbols : List (List ℕ)). HaveHistories (symbols_in share symbols) (set room (index_in_share share index) now) (entries ++ entry ∷ [])) (sym (symbols-more entries entry)) done)
