-- The laws of a day's symbols, as statements.
use Rattle.std.specs.Prelude.{◌≡◌, ◌≢◌, ◌≤◌, ℕ, List, All, AllPairs, Contains, IsTrue}
use Rattle.audit_base.specs.declared.records.OrderRecord.{OrderRecord}
use Rattle.audit_base.specs.declared.records.TradeRecord.{TradeRecord}
use Rattle.day_symbols.specs.Symbols.{symbols_of_day, symbols_of_logs}
use Rattle.day_symbols.specs.Shares.{is_in_share}

-- The symbols have no repetition, each name's is among them, and each is one of the names.
pub record AreEachOnce (names symbols : List (List ℕ)) : Type 0 where
  pub once : AllPairs (λ a b. a ≢ b) symbols
  pub all : All (Contains symbols) names
  pub only : All (Contains names) symbols

-- each symbol once: the symbols of a day have no repetition, each record's symbol is among
-- them, and each is the symbol of a record
abbrev pub EachSymbolOnce : Type 0
EachSymbolOnce = (entries : List OrderRecord) (trades : List TradeRecord)
    → AreEachOnce (symbols_of_logs entries trades) (symbols_of_day entries trades)

-- The share `number` is one of the `count` shares, and the symbol at the index is in it and in
-- no other of them.
pub record IsOnlyShare (count index number : ℕ) : Type 0 where
  pub first : 1 ≤ number
  pub among : number ≤ count
  pub has : IsTrue (is_in_share (record { number = number; count = count }) index)
  pub one : (other : ℕ) → 1 ≤ other
      → IsTrue (is_in_share (record { number = other; count = count }) index) → other ≡ number

-- shares are the day: for each number of shares the symbol at each index is in exactly one of them
abbrev pub SharesAreTheDay : Type 0
SharesAreTheDay =
    (count index : ℕ) → 1 ≤ count → (number : ℕ) × IsOnlyShare count index number
