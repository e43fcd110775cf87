-- The records of a symbol of a day as its judge gets them, and what they give.
use Rattle.std.specs.Prelude.{◌≡◌, ◌<◌, ◌-◌, ◌^◌, ℕ, List, Ok, length}
use Rattle.audit_base.specs.declared.records.OrderRecord.{OrderRecord}
use Rattle.audit_base.specs.declared.records.TradeRecord.{TradeRecord}
use Rattle.day_records.specs.declared.symbol_records.SymbolRecords.{SymbolRecords}
use Rattle.day_records.specs.KeptRecords.{HasKeptRecords}
use Rattle.day_records.specs.SymbolDuringTrades.{scope_by}
use Rattle.record_verdict.specs.declared.before_rule.BeforeRule.{BeforeRule}
use Rattle.record_verdict.specs.declared.scopes.Admission.{Admission}
use Rattle.record_verdict.specs.BeforeRule.{IsBeforeRule}

-- These are the records of the symbol among those of a day, of which these orders are admitted.
pub record HasSymbolRecords (admission : Admission) (entries : List OrderRecord)
    (trades : List TradeRecord) (symbol : List ℕ) (own : SymbolRecords) : Type 0 where
  pub records_are : HasKeptRecords entries trades symbol own.records
  pub counted : own.count ≡ length trades
  pub admits : own.admission ≡ admission

-- They are the records of a symbol of a day that has order records fewer than 2^32, and trades
-- fewer than there are places.
pub record HasFewSymbolRecords (own : SymbolRecords) : Type 0 where
  pub admission : Admission
  pub entries : List OrderRecord
  pub trades : List TradeRecord
  pub symbol : List ℕ
  pub has : HasSymbolRecords admission entries trades symbol own
  pub fits_indices : length entries < 2 ^ 32
  pub fits_places : length trades < 2 ^ 32 - 1

-- whatever records of a symbol these are, they give this before its rule is looked at
abbrev pub RecordsGive : SymbolRecords → BeforeRule → Type 0
RecordsGive own given = (admission : Admission) (entries : List OrderRecord)
    (trades : List TradeRecord) (symbol : List ℕ)
    → HasSymbolRecords admission entries trades symbol own
    → IsBeforeRule (scope_by admission symbol) entries (Ok trades) given
