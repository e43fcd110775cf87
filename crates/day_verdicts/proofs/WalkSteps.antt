-- The symbols of a share, judged one after another, with one more.
use Rattle.std.proofs.Common.{◌≡◌, ◌<◌, ◌+◌, ◌^◌, ℕ, Some, List, [], ◌∷◌, ◌++◌, Option, length, length-append, take, refl, sym, ap, subst, ◌∙◌, arith}
use Rattle.std.specs.Prelude.{option_map, slice_get}
use Rattle.std.proofs.lemmas.List.{append_assoc, length-take-le, take_all, take_more}
use Rattle.std.proofs.lemmas.Option.{slice_get_within, get_or_from_slice_get}
use Rattle.audit_base.specs.declared.records.OrderRecord.{OrderRecord}
use Rattle.audit_base.specs.declared.records.TradeRecord.{TradeRecord}
use Rattle.day_symbols.specs.Shares.{DayShare, symbols_in}
use Rattle.day_symbols.specs.Symbols.{symbols_of_day}
use Rattle.day_records.specs.declared.day_trades.DayRecords.{DayRecords}
use Rattle.day_records.specs.declared.kept_records.KeptRecords.{KeptRecords}
use Rattle.day_records.specs.declared.symbol_records.SymbolRecords.{SymbolRecords}
use Rattle.day_records.specs.DayTrades.{HasTradesOf}
use Rattle.day_records.specs.KeptRecords.{HasKeptRecords}
use Rattle.day_records.specs.SymbolRecords.{HasSymbolRecords}
use Rattle.day_verdicts.specs.SymbolWalks.{HasJudgedShare, HasJudgedUpTo, IsNext, JudgesNext, TradesFitPlaces}
use Rattle.record_verdict.specs.declared.scopes.Admission.{Admission}

-- what the judge of a symbol with these records is handed
abbrev handed : DayRecords → KeptRecords → SymbolRecords
handed ended own = record { records = own; count = ended.count; seed = ended.seed; admission = ended.admission }

-- what comes after others
behind-at : {X : Type 0} (before : List X) (x : X) (rest : List X) → slice_get (before ++ x ∷ rest) (length before) ≡ Some x
behind-at [] x rest = refl
behind-at (y ∷ ys) x rest = behind-at ys x rest

-- the next symbol: its place, its records, and those behind them
pub record IsAt (share : DayShare) (ended : DayRecords) (n : ℕ) (own : KeptRecords) (symbol : List ℕ) (before rest : List KeptRecords) : Type 0 where
  pub parts : before ++ own ∷ rest ≡ ended.kept.items
  pub at : n ≡ length before
  pub symbol_there : slice_get (symbols_in share ended.symbols) n ≡ Some symbol

pub next-at : {R : Type 0} {n : ℕ} {own : KeptRecords} {symbol : R} {before left rest : List KeptRecords} {found : Option R} (name : R → List ℕ) (share : DayShare) (ended : DayRecords) → before ++ left ≡ ended.kept.items → left ≡ own ∷ rest → n ≡ length before
    → option_map name found ≡ slice_get (symbols_in share ended.symbols) n → found ≡ Some symbol → IsAt share ended n own (name symbol) before rest
next-at {before = before} name share ended parts next at got is = record {
  parts = ap (λ (xs : List KeptRecords). before ++ xs) (sym next) ∙ parts;
  at = at;
  symbol_there = sym got ∙ ap (option_map name) is;
}

-- its records lie at its place
records-there : {share : DayShare} {ended : DayRecords} {n : ℕ} {own : KeptRecords} {symbol : List ℕ} {before rest : List KeptRecords} → IsAt share ended n own symbol before rest → slice_get ended.kept.items n ≡ Some own
records-there {ended = ended} {own = own} {before = before} {rest = rest} next = ap (slice_get ended.kept.items) next.at ∙ ap (λ (xs : List KeptRecords). slice_get xs (length before)) (sym next.parts) ∙ behind-at before own rest

module _ {share : DayShare} {admission : Admission} {ended : DayRecords} {n : ℕ} {own : KeptRecords} {symbol : List ℕ} {before rest : List KeptRecords} (next : IsAt share ended n own symbol before rest) where
  symbol-there : (entries : List OrderRecord) (trades : List TradeRecord) → HasTradesOf share admission entries ended trades → slice_get (symbols_in share (symbols_of_day entries trades)) n ≡ Some symbol
  symbol-there entries trades has = ap (λ (s : List (List ℕ)). slice_get (symbols_in share s) n) (sym has.symbols_are) ∙ next.symbol_there

  -- they are the records of the symbol
  own-records : (entries : List OrderRecord) (trades : List TradeRecord) → HasTradesOf share admission entries ended trades → HasKeptRecords entries trades symbol own
  own-records entries trades has = has.records_are.each n symbol own (symbol-there entries trades has) (records-there next)

  has-handed : (entries : List OrderRecord) (trades : List TradeRecord) → HasTradesOf share admission entries ended trades → HasSymbolRecords admission entries trades symbol (handed ended own)
  has-handed entries trades has = record {
    records_are = own-records entries trades has;
    counted = has.count;
    admits = has.admits;
  }

  module _ {K : Type 0} (has_judged : K → K → List OrderRecord → List TradeRecord → List (List ℕ) → Type 0) (first old : K) (is : HasJudgedUpTo admission (has_judged first) share ended n old) where
    -- the judge may go on
    pub goes-on : TradesFitPlaces share admission ended → length ended.kept.items < 2 ^ 64 → IsNext admission has_judged symbol (handed ended own) old
    goes-on few small =
        let symbols : List (List ℕ) = symbols_in share (symbols_of_day few.entries few.trades) in
        let within : n < length ended.kept.items = slice_get_within ended.kept.items n own (records-there next) in
        let count : length (take n symbols) ≡ n = length-take-le n symbols (omega (arith, within, few.has.records_are.same_length)) in
        record {
          first = first;
          entries = few.entries;
          trades = few.trades;
          symbols = take n symbols;
          is = has-handed few.entries few.trades few.has;
          has = is few.entries few.trades few.has;
          few = omega (arith, count, within, small);
          fits_indices = few.has.fits_indices;
          fits_places = few.fits_places;
        }

    -- and has judged one symbol more
    one-more : (new : K) → JudgesNext admission has_judged symbol (handed ended own) old new → HasJudgedUpTo admission (has_judged first) share ended (n + 1) new
    one-more new judges = λ entries trades has.
        let symbols : List (List ℕ) = symbols_in share (symbols_of_day entries trades) in
        let got : slice_get symbols n ≡ Some symbol = symbol-there entries trades has in
        let more : take (n + 1) symbols ≡ take n symbols ++ symbol ∷ [] = take_more symbols n [] (slice_get_within symbols n symbol got) ∙ ap (λ (s : List ℕ). take n symbols ++ s ∷ []) (get_or_from_slice_get symbols n symbol [] got) in
        subst (λ (ss : List (List ℕ)). has_judged first new entries trades ss) (sym more) (judges first entries trades (take n symbols) (has-handed entries trades has) (is entries trades has))

    -- the loop goes on with the symbols that are left
    pub walked-on : (new : K) → JudgesNext admission has_judged symbol (handed ended own) old new
        → ((before ++ own ∷ []) ++ rest ≡ ended.kept.items) × (n + 1 ≡ length (before ++ own ∷ [])) × HasJudgedUpTo admission (has_judged first) share ended (n + 1) new
    walked-on new judges = (
      append_assoc before (own ∷ []) rest ∙ next.parts,
      ap (λ (m : ℕ). m + 1) next.at ∙ sym (length-append before (own ∷ [])),
      one-more new judges,
    )

-- all symbols were judged
pub walked-all : {K : Type 0} (admission : Admission) (has_judged : K → List OrderRecord → List TradeRecord → List (List ℕ) → Type 0) (share : DayShare) (ended : DayRecords) (n : ℕ) (before rest : List KeptRecords) (kept : K)
    → before ++ rest ≡ ended.kept.items → length rest ≡ 0 → n ≡ length before → HasJudgedUpTo admission has_judged share ended n kept → HasJudgedShare admission has_judged share ended kept
walked-all admission has_judged share ended n before rest kept all none at is = λ entries trades has.
    let symbols : List (List ℕ) = symbols_in share (symbols_of_day entries trades) in
    let size : length before + length rest ≡ length ended.kept.items = sym (length-append before rest) ∙ ap length all in
    let whole : take n symbols ≡ symbols = take_all n symbols (omega (arith, size, none, at, has.records_are.same_length)) in
    subst (λ (ss : List (List ℕ)). has_judged kept entries trades ss) whole (is entries trades has)
