-- The symbols of a share, judged one after another by the records of each.
use Rattle.std.specs.Prelude.{◌<◌, ◌-◌, ◌^◌, ℕ, List, [], ◌∷◌, ◌++◌, length, take}
use Rattle.audit_base.specs.declared.records.OrderRecord.{OrderRecord}
use Rattle.audit_base.specs.declared.records.TradeRecord.{TradeRecord}
use Rattle.day_symbols.specs.Shares.{DayShare, symbols_in}
use Rattle.day_symbols.specs.Symbols.{symbols_of_day}
use Rattle.day_records.specs.declared.day_trades.DayRecords.{DayRecords}
use Rattle.day_records.specs.declared.symbol_records.SymbolRecords.{SymbolRecords}
use Rattle.day_records.specs.DayTrades.{HasTradesOf}
use Rattle.day_records.specs.SymbolRecords.{HasSymbolRecords}
use Rattle.record_verdict.specs.declared.scopes.Admission.{Admission}

-- Fewer symbols were judged than there may be, over records among which these are those of the next
-- one.
pub record IsNext {K : Type 0} (admission : Admission)
    (has_judged : K → K → List OrderRecord → List TradeRecord → List (List ℕ) → Type 0)
    (symbol : List ℕ) (own : SymbolRecords) (kept : K) : Type 0 where
  pub first : K
  pub entries : List OrderRecord
  pub trades : List TradeRecord
  pub symbols : List (List ℕ)
  pub is : HasSymbolRecords admission entries trades symbol own
  pub has : has_judged first kept entries trades symbols
  pub few : length symbols < 2 ^ 64 - 1
  pub fits_indices : length entries < 2 ^ 32
  pub fits_places : length trades < 2 ^ 32 - 1

-- one symbol more was judged, over whatever records these are those of it
abbrev pub JudgesNext : {K : Type 0} → Admission
    → (K → K → List OrderRecord → List TradeRecord → List (List ℕ) → Type 0) → List ℕ
    → SymbolRecords → K → K → Type 0
JudgesNext admission has_judged symbol own old new =
    (first : _) (entries : List OrderRecord) (trades : List TradeRecord) (symbols : List (List ℕ))
    → HasSymbolRecords admission entries trades symbol own
    → has_judged first old entries trades symbols
    → has_judged first new entries trades (symbols ++ symbol ∷ [])

-- the day has some records, of trades fewer than there are places
pub record TradesFitPlaces (share : DayShare) (admission : Admission) (ended : DayRecords)
    : Type 0 where
  pub entries : List OrderRecord
  pub trades : List TradeRecord
  pub has : HasTradesOf share admission entries ended trades
  pub fits_places : length trades < 2 ^ 32 - 1

-- whatever records the day has, the symbols of the share were judged over them
abbrev pub HasJudgedShare : {K : Type 0} → Admission
    → (K → List OrderRecord → List TradeRecord → List (List ℕ) → Type 0) → DayShare → DayRecords
    → K → Type 0
HasJudgedShare admission has_judged share ended kept =
    (entries : List OrderRecord) (trades : List TradeRecord)
    → HasTradesOf share admission entries ended trades
    → has_judged kept entries trades (symbols_in share (symbols_of_day entries trades))

-- the same of this many first symbols of the share
abbrev pub HasJudgedUpTo : {K : Type 0} → Admission
    → (K → List OrderRecord → List TradeRecord → List (List ℕ) → Type 0) → DayShare → DayRecords
    → ℕ → K → Type 0
HasJudgedUpTo admission has_judged share ended n kept =
    (entries : List OrderRecord) (trades : List TradeRecord)
    → HasTradesOf share admission entries ended trades
    → has_judged kept entries trades (take n (symbols_in share (symbols_of_day entries trades)))
