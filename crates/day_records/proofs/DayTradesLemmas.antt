-- The records of a day with one trade more.
use Rattle.std.proofs.Common.{◌≡◌, ◌<◌, ◌+◌, inl, inr, ℕ, Bool, true, false, Some, List, [], ◌∷◌, ◌++◌, All, length, length-append, append-nil, refl, sym, ap, subst, ◌∙◌, arith}
use Rattle.std.specs.Prelude.{map, slice_get}
use Rattle.std.proofs.Math.ListN.{set}
use Rattle.std.proofs.lemmas.Bool.{cases_lt}
use Rattle.std.proofs.lemmas.List.{append_assoc, get_or_append_left, map-append}
use Rattle.std.proofs.lemmas.List.Elements.{All-tail}
use Rattle.std.proofs.lemmas.Option.{same_Some, slice_get_within, slice_get-get_or}
use Rattle.audit_base.specs.declared.records.OrderRecord.{OrderRecord}
use Rattle.audit_base.specs.declared.records.TradeRecord.{TradeRecord}
use Rattle.audit_base.specs.Histories.{symbol_of}
use Rattle.audit_base.specs.Orders.{same_name}
use Rattle.audit_base.specs.Trades.{trades_of_symbol}
use Rattle.day_symbols.specs.Kept.{HasRoomAt}
use Rattle.day_symbols.specs.Shares.{DayShare, is_in_share, index_in_share, symbols_in}
use Rattle.day_symbols.specs.Symbols.{distinct_names, symbols_of_day, symbols_of_logs}
use Rattle.day_symbols.proofs.KeptLemmas.{AreAtPlaces, OthersStay}
use Rattle.day_symbols.proofs.MetLemmas.{inside-step, outside-step, room-met, room-within}
use Rattle.day_symbols.proofs.PlaceLemmas.{got-left, got-last}
use Rattle.day_symbols.proofs.SymbolLemmas.{is-same}
use Rattle.day_records.specs.DayOrders.{HasHistory, HaveHistories, order_symbols}
use Rattle.day_records.proofs.DayOrderLemmas.{empty-history}
use Rattle.day_records.specs.KeptOrders.{KeptEntries}
use Rattle.day_records.specs.KeptTrades.{KeptTradeList, with_trade}
use Rattle.day_records.proofs.NumberedLemmas.{left-more, left-same, none-left}
use Rattle.day_records.specs.declared.kept_records.KeptRecords.{KeptRecords}
use Rattle.day_records.specs.DayTrades.{AreBegun, HaveKeptRecords}
use Rattle.day_records.specs.KeptRecords.{HasKeptRecords, HasSymbolTrades, IsBegun, IsUnseen, KeepsTrade}

-- what holds of each of two lists holds of each of either
all-left : {X : Type 0} (P : X → Type 0) (xs ys : List X) → All P (xs ++ ys) → All P xs
all-left P xs ys all = λ k d lt. subst P (get_or_append_left xs ys d k lt) (all k d (omega (arith, lt, length-append xs ys)))

all-right : {X : Type 0} (P : X → Type 0) (xs ys : List X) → All P (xs ++ ys) → All P ys
all-right P [] ys all = all
all-right P (x ∷ xs) ys all = all-right P xs ys (All-tail P x (xs ++ ys) all)

-- Before any trade.

pub begun-more : (orders : List KeptEntries) (kept : List KeptRecords) (own : KeptEntries) (one : KeptRecords) → AreBegun orders kept → IsBegun own one → AreBegun (orders ++ own ∷ []) (kept ++ one ∷ [])
begun-more orders kept own one are begun = record {
  same_length = omega (arith, length-append orders (own ∷ []), length-append kept (one ∷ []), are.same_length);
  each = each;
}
  where
    each : (i : ℕ) (o : KeptEntries) (k : KeptRecords) → slice_get (orders ++ own ∷ []) i ≡ Some o → slice_get (kept ++ one ∷ []) i ≡ Some k → IsBegun o k
    each i o k got-o got-k = elim (cases_lt i (length orders)) as (λ _. IsBegun o k) [
      | inl less ↦
          let less-k : i < length kept = omega (arith, less, are.same_length) in
          are.each i o k (sym (got-left orders (own ∷ []) i less) ∙ got-o) (sym (got-left kept (one ∷ []) i less-k) ∙ got-k)
      | inr le ↦
          let within : i < length (orders ++ own ∷ []) = slice_get_within (orders ++ own ∷ []) i o got-o in
          let last : length orders ≡ i = omega (arith, le, within, length-append orders (own ∷ [])) in
          let last-k : length kept ≡ i = are.same_length ∙ last in
          let o-is : own ≡ o = same_Some own o (sym (got-last orders own) ∙ ap (slice_get (orders ++ own ∷ [])) last ∙ got-o) in
          let k-is : one ≡ k = same_Some one k (sym (got-last kept one) ∙ ap (slice_get (kept ++ one ∷ [])) last-k ∙ got-k) in
          subst (λ (x : KeptEntries). IsBegun x k) o-is (subst (λ (x : KeptRecords). IsBegun own x) k-is begun)
    ]

-- the symbol with these trades
abbrev kept_with : List ℕ → List (ℕ × TradeRecord) → KeptTradeList
kept_with symbol trades = record { symbol = symbol; trades = trades }

-- of a log without trades nothing is kept of a symbol
none-kept : (symbol : List ℕ) (kept : KeptTradeList) → kept ≡ kept_with symbol [] → HasSymbolTrades [] symbol kept
unfolding trades_of_symbol
none-kept symbol kept is = is

begun-one : (entries : List OrderRecord) (symbol : List ℕ) (own : KeptEntries) (one : KeptRecords) → HasHistory entries symbol own → IsBegun own one → HasKeptRecords entries [] symbol one
begun-one entries symbol own one has begun = record {
  orders_are = begun.orders_are ∙ has;
  trades_are = none-kept symbol one.trades (begun.no_trades ∙ ap (λ (o : KeptEntries). kept_with o.symbol []) has);
}

-- the symbols of a day without trades
pub no-trades : (entries : List OrderRecord) → symbols_of_day entries [] ≡ order_symbols entries
no-trades entries = ap distinct_names (append-nil (map symbol_of entries))

pub begun-all : (share : DayShare) (orders : List KeptEntries) (entries : List OrderRecord) (kept : List KeptRecords) → HaveHistories (symbols_in share (order_symbols entries)) orders entries → AreBegun orders kept
    → HaveKeptRecords entries [] (symbols_in share (symbols_of_day entries [])) kept
begun-all share orders entries kept are begun =
    subst (λ (symbols : List (List ℕ)). HaveKeptRecords entries [] (symbols_in share symbols) kept) (sym (no-trades entries)) record {
      same_length = begun.same_length ∙ are.same_length;
      each = λ i symbol one got-s got-k.
          let lt : i < length orders = omega (arith, slice_get_within kept i one got-k, begun.same_length) in
          let there = orders-at orders i lt in
          begun-one entries symbol there.0 one (are.each i symbol there.0 got-s there.1) (begun.each i there.0 one there.1 got-k);
    }
  where
    orders-at : (xs : List KeptEntries) (i : ℕ) → i < length xs → (own : KeptEntries) × (slice_get xs i ≡ Some own)
    orders-at [] i lt = absurd (omega (arith, lt))
    orders-at (x ∷ xs) i lt = (_, slice_get-get_or (x ∷ xs) i x lt)

-- One trade more.

-- a trade of the symbol
abbrev trade_of : List ℕ → ℕ × TradeRecord → Bool
trade_of symbol e = same_name e.1.symbol symbol

-- the symbol of a trade
abbrev pub traded_symbol : TradeRecord → List ℕ
traded_symbol trade = trade.symbol

written-more : (entries : List OrderRecord) (trades : List TradeRecord) (x : TradeRecord) → symbols_of_logs entries (trades ++ x ∷ []) ≡ symbols_of_logs entries trades ++ x.symbol ∷ []
written-more entries trades x =
    ap (λ (names : List (List ℕ)). map symbol_of entries ++ names) (map-append traded_symbol trades (x ∷ []))
    ∙ sym (append_assoc (map symbol_of entries) (map traded_symbol trades) (x.symbol ∷ []))

-- the symbols with one trade more
pub traded-more : (entries : List OrderRecord) (trades : List TradeRecord) (x : TradeRecord) → symbols_of_day entries (trades ++ x ∷ []) ≡ distinct_names (symbols_of_logs entries trades ++ x.symbol ∷ [])
traded-more entries trades x = ap distinct_names (written-more entries trades x)

-- of another symbol the trades stay
trades-stay : (trades : List TradeRecord) (x : TradeRecord) (symbol : List ℕ) → same_name x.symbol symbol ≡ false → trades_of_symbol symbol (trades ++ x ∷ []) ≡ trades_of_symbol symbol trades
unfolding trades_of_symbol
trades-stay trades x symbol other = left-same (trade_of symbol) trades x other

others-stay : (entries : List OrderRecord) (trades : List TradeRecord) (x : TradeRecord) → OthersStay x.symbol (HasKeptRecords entries trades) (HasKeptRecords entries (trades ++ x ∷ []))
others-stay entries trades x symbol one other is = record {
  orders_are = is.orders_are;
  trades_are = is.trades_are ∙ ap (kept_with symbol) (sym (trades-stay trades x symbol other));
}

-- of its own symbol there is one trade more
own-trades : (trades : List TradeRecord) (x : TradeRecord) (place : ℕ) → place ≡ length trades + 1 → trades_of_symbol x.symbol trades ++ (place, x) ∷ [] ≡ trades_of_symbol x.symbol (trades ++ x ∷ [])
unfolding trades_of_symbol
own-trades trades x place at =
    ap (λ (n : ℕ). trades_of_symbol x.symbol trades ++ (n, x) ∷ []) at ∙ sym (left-more (trade_of x.symbol) trades x (is-same x.symbol x.symbol refl))

own-more : (entries : List OrderRecord) (trades : List TradeRecord) (x : TradeRecord) (was now : KeptRecords) (place : ℕ) → place ≡ length trades + 1 → KeepsTrade was now place x
    → HasKeptRecords entries trades x.symbol was → HasKeptRecords entries (trades ++ x ∷ []) x.symbol now
own-more entries trades x was now place at takes is = record {
  orders_are = takes.orders_are ∙ is.orders_are;
  trades_are = takes.trades_are ∙ ap (λ (kept : KeptTradeList). with_trade kept place x) is.trades_are ∙ ap (kept_with x.symbol) (own-trades trades x place at);
}

-- a symbol that no record has is kept with its records where it is kept without any
none-traded : (symbol : List ℕ) (trades : List TradeRecord) → All (λ (name : List ℕ). same_name name symbol ≡ false) (map traded_symbol trades) → trades_of_symbol symbol trades ≡ []
unfolding trades_of_symbol
none-traded symbol trades others = none-left traded_symbol symbol 1 trades others

unseen-kept : (entries : List OrderRecord) (trades : List TradeRecord) (own : List ℕ) (one : KeptRecords) → All (λ (name : List ℕ). same_name name own ≡ false) (symbols_of_logs entries trades) → IsUnseen own one → HasKeptRecords entries trades own one
unseen-kept entries trades own one others unseen = record {
  orders_are = empty-history own one.orders entries (all-left (λ (name : List ℕ). same_name name own ≡ false) (map symbol_of entries) (map traded_symbol trades) others) unseen.no_orders;
  trades_are = unseen.no_trades ∙ ap (kept_with own) (sym (none-traded own trades (all-right (λ (name : List ℕ). same_name name own ≡ false) (map symbol_of entries) (map traded_symbol trades) others)));
}

-- a trade of a symbol outside the share
pub outside-more : (share : DayShare) (kept : List KeptRecords) (entries : List OrderRecord) (trades : List TradeRecord) (x : TradeRecord) (index : ℕ)
    → slice_get (distinct_names (symbols_of_logs entries trades ++ x.symbol ∷ [])) index ≡ Some x.symbol → is_in_share share index ≡ false
    → HaveKeptRecords entries trades (symbols_in share (symbols_of_day entries trades)) kept
    → HaveKeptRecords entries (trades ++ x ∷ []) (symbols_in share (symbols_of_day entries (trades ++ x ∷ []))) kept
outside-more share kept entries trades x index got outside are =
    subst (λ (symbols : List (List ℕ)). HaveKeptRecords entries (trades ++ x ∷ []) (symbols_in share symbols) kept) (sym (traded-more entries trades x))
    (outside-step (HasKeptRecords entries trades) (HasKeptRecords entries (trades ++ x ∷ [])) share (symbols_of_logs entries trades) x.symbol kept index (others-stay entries trades x) got outside are)

-- the symbol of a trade was met, and what is kept of it is at this index
pub record IsTradeMet (share : DayShare) (entries : List OrderRecord) (trades : List TradeRecord) (x : TradeRecord) (room : List KeptRecords) (index place : ℕ) : Type 0 where
  pub got : slice_get (distinct_names (symbols_of_logs entries trades ++ x.symbol ∷ [])) index ≡ Some x.symbol
  pub inside : is_in_share share index ≡ true
  pub at : place ≡ index_in_share share index
  pub places : AreAtPlaces (HasKeptRecords entries trades) share (distinct_names (symbols_of_logs entries trades ++ x.symbol ∷ [])) room
  pub within : place < length room

pub met-inside : (share own_share : DayShare) (old room : List KeptRecords) (entries : List OrderRecord) (trades : List TradeRecord) (x : TradeRecord) (symbols new : List (List ℕ)) (index place : ℕ)
    → own_share ≡ share → symbols ≡ symbols_of_day entries trades → ((names : List (List ℕ)) → symbols ≡ distinct_names names → new ≡ distinct_names (names ++ x.symbol ∷ []))
    → slice_get new index ≡ Some x.symbol → is_in_share own_share index ≡ true → place ≡ index_in_share own_share index → HasRoomAt (IsUnseen x.symbol) place old room
    → HaveKeptRecords entries trades (symbols_in share (symbols_of_day entries trades)) old → IsTradeMet share entries trades x room index place
met-inside share own_share old room entries trades x symbols new index place shared symbols_are meets there inside at makes are =
    let met : new ≡ distinct_names (symbols_of_logs entries trades ++ x.symbol ∷ []) = meets (symbols_of_logs entries trades) symbols_are in
    let got : slice_get (distinct_names (symbols_of_logs entries trades ++ x.symbol ∷ [])) index ≡ Some x.symbol = ap (λ (s : List (List ℕ)). slice_get s index) (sym met) ∙ there in
    let inside_it : is_in_share share index ≡ true = ap (λ (s : DayShare). is_in_share s index) (sym shared) ∙ inside in
    let at_it : place ≡ index_in_share share index = at ∙ ap (λ (s : DayShare). index_in_share s index) shared in
    let makes_it : HasRoomAt (IsUnseen x.symbol) (index_in_share share index) old room = subst (λ (k : ℕ). HasRoomAt (IsUnseen x.symbol) k old room) at_it makes in
    let places = room-met (HasKeptRecords entries trades) (IsUnseen x.symbol) share (symbols_of_logs entries trades) x.symbol old room index
    (λ others one unseen. unseen-kept entries trades x.symbol one others unseen) got inside_it makes_it are in
    record {
      got = got;
      inside = inside_it;
      at = at_it;
      places = places;
      within = subst (λ (k : ℕ). k < length room) (sym at_it) (room-within (HasKeptRecords entries trades) share (distinct_names (symbols_of_logs entries trades ++ x.symbol ∷ [])) x.symbol room index got inside_it places);
    }

-- what is kept there is of the symbol of the trade
pub is-own : (share : DayShare) (entries : List OrderRecord) (trades : List TradeRecord) (x : TradeRecord) (room : List KeptRecords) (index place : ℕ) (was : KeptRecords)
    → IsTradeMet share entries trades x room index place → slice_get room place ≡ Some was → x.symbol ≡ was.trades.symbol
is-own share entries trades x room index place was met there =
    sym (ap (λ (kept : KeptTradeList). kept.symbol) (met.places.each index x.symbol was met.inside met.got (ap (slice_get room) (sym met.at) ∙ there)).trades_are)

-- it has taken the trade
pub has-taken : (share : DayShare) (entries : List OrderRecord) (trades : List TradeRecord) (x : TradeRecord) (room : List KeptRecords) (index place number : ℕ) (was now : KeptRecords)
    → IsTradeMet share entries trades x room index place → slice_get room place ≡ Some was → number ≡ length trades + 1 → KeepsTrade was now number x
    → HaveKeptRecords entries (trades ++ x ∷ []) (symbols_in share (symbols_of_day entries (trades ++ x ∷ []))) (set room place now)
has-taken share entries trades x room index place number was now met there at takes =
    let done = inside-step (HasKeptRecords entries trades) (HasKeptRecords entries (trades ++ x ∷ [])) share (symbols_of_logs entries trades) x.symbol room index was now (others-stay entries trades x)
    met.got met.inside (ap (slice_get room) (sym met.at) ∙ there) (λ is. own-more entries trades x was now number at takes is) met.places in
    subst (λ (k : ℕ). HaveKeptRecords entries (trades ++ x ∷ []) (symbols_in share (symbols_of_day entries (trades ++ x ∷ []))) (set room k now)) (sym met.at)
    (subst (λ (symbols : List (List ℕ)). HaveKeptRecords entries (trades ++ x ∷ []) (symbols_in share symbols) (set room (index_in_share share index) now)) (sym (traded-more entries trades x)) done)
