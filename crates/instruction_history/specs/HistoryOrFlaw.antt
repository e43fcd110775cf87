-- Which records of a symbol the history of it is known after.
use Rattle.std.specs.Prelude.{◌≡◌, ◌<◌, ◌+◌, ◌^◌, ℕ, true, List, [], ◌∷◌, ◌++◌, length}
use Rattle.audit_base.specs.declared.records.OrderRecord.{OrderRecord}
use Rattle.audit_base.specs.Histories.{history, symbol_of}
use Rattle.audit_base.specs.Orders.{same_name}
use Rattle.instruction_history.specs.declared.history_or_flaw.HistoryOrFlaw.{HistoryOrFlaw}
use Rattle.instruction_history.specs.Draft.{IsHistoryKnown}
use Rattle.instruction_history.specs.Flaws.{flaw_finding, NamesNoOrder}

-- this is the history of the symbol after exactly these records of the order log, of all symbols
pub record IsHistoryOrFlaw (symbol : List ℕ) (kept : HistoryOrFlaw)
    (entries : List OrderRecord) : Type 0 where
  pub known : IsHistoryKnown (history symbol entries) kept.so_far (flaw_finding kept.flaw)
  pub alone : NamesNoOrder kept.flaw

-- a fact of every symbol and all records whose history this is
abbrev pub ForRecords : HistoryOrFlaw → (List ℕ → List OrderRecord → Type 0) → Type 0
ForRecords kept P = (symbol : List ℕ) (entries : List OrderRecord)
    → IsHistoryOrFlaw symbol kept entries → P symbol entries

-- this is the history of a symbol after some records, of which there are fewer than 2^32
pub record HasFewRecords (kept : HistoryOrFlaw) : Type 0 where
  pub symbol : List ℕ
  pub entries : List OrderRecord
  pub is : IsHistoryOrFlaw symbol kept entries
  pub fits_indices : length entries < 2 ^ 32

-- of whatever symbol this was the history, it is that with one record of the symbol more, at its
-- place
abbrev pub TakesOwnRecord : HistoryOrFlaw → HistoryOrFlaw → ℕ → OrderRecord → Type 0
TakesOwnRecord old new place entry = ForRecords old (λ symbol entries.
    same_name (symbol_of entry) symbol ≡ true → place ≡ length entries + 1
    → IsHistoryOrFlaw symbol new (entries ++ entry ∷ []))
