-- Which records a draft of a history has been handed.
use Rattle.std.specs.Prelude.{◌≡◌, ℕ, List, [], ◌∷◌, ◌++◌, Some, length}
use Rattle.audit_base.specs.declared.records.OrderRecord.{OrderRecord}
use Rattle.audit_base.specs.declared.findings.Finding.{Finding}
use Rattle.audit_base.specs.declared.orders.Order.{Order}
use Rattle.audit_base.specs.Histories.{history_finding, order_list}
use Rattle.instruction_history.specs.declared.history_draft.HistoryDraft.{HistoryDraft}
use Rattle.instruction_history.specs.MarketPrices.{AreRecordsMarketPriced, AreMarketPriced}
use Rattle.instruction_history.specs.HistoryOrFlaw.{IsHistoryOrFlaw}

-- the draft of the symbol's history has been handed exactly these records of the order log
pub record IsHistoryDraft {S : Type 0} (symbol : List ℕ) (draft : HistoryDraft S)
    (entries : List OrderRecord) : Type 0 where
  pub named : draft.symbol ≡ symbol
  pub count : draft.count ≡ length entries
  pub kept : IsHistoryOrFlaw symbol draft.kept entries

-- a fact of whatever records the draft has been handed
abbrev pub ForHandedRecords : {S : Type 0} → List ℕ → HistoryDraft S → (List OrderRecord → Type 0)
    → Type 0
ForHandedRecords symbol draft P =
    (entries : List OrderRecord) → IsHistoryDraft symbol draft entries → P entries

-- these are the orders of the records that the draft has been handed
abbrev pub AreOrdersOf : {S : Type 0} → List ℕ → HistoryDraft S → List Order → Type 0
AreOrdersOf symbol draft orders =
    ForHandedRecords symbol draft (λ entries. orders ≡ order_list symbol entries)

-- where the records that the draft has been handed have market prices, so have these orders
abbrev pub KeepsMarketPrices : {S : Type 0} → List ℕ → HistoryDraft S → List Order → Type 0
KeepsMarketPrices symbol draft orders =
    ForHandedRecords symbol draft
    (λ entries. AreRecordsMarketPriced entries → AreMarketPriced orders)

-- this is the first finding of the records that the draft has been handed
abbrev pub IsFindingOfRecords : {S : Type 0} → List ℕ → HistoryDraft S → Finding → Type 0
IsFindingOfRecords symbol draft finding =
    ForHandedRecords symbol draft (λ entries. history_finding symbol entries ≡ Some finding)

-- the draft has been handed one record more
abbrev pub TakesRecord : {S : Type 0} → List ℕ → HistoryDraft S → HistoryDraft S → OrderRecord
    → Type 0
TakesRecord symbol old new entry =
    ForHandedRecords symbol old (λ entries. IsHistoryDraft symbol new (entries ++ entry ∷ []))
