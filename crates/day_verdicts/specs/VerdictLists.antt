-- What is handed the verdicts on the symbols of a day.
use Rattle.std.specs.Prelude.{ℕ, false, List, [], ◌∷◌, ◌++◌}
use Rattle.audit_base.specs.declared.records.OrderRecord.{OrderRecord}
use Rattle.audit_base.specs.declared.records.TradeRecord.{TradeRecord}
use Rattle.audit_base.specs.declared.terms.Rule.{Rule}
use Rattle.audit_report.specs.declared.verdicts.Verdict.{Verdict}
use Rattle.day_symbols.specs.Shares.{DayShare, symbols_in}
use Rattle.day_symbols.specs.Symbols.{symbols_of_day}
use Rattle.day_records.specs.DayTrades.{HasTradesOf}
use Rattle.day_records.specs.declared.day_trades.DayRecords.{DayRecords}
use Rattle.day_verdicts.specs.DayVerdicts.{AreVerdicts}
use Rattle.record_verdict.specs.Scopes.{admission_of}

-- one verdict more, on one symbol more, was handed on
abbrev pub TakesVerdict : (List (List ℕ) → List Verdict → Type 0)
    → (List (List ℕ) → List Verdict → Type 0) → List ℕ → Verdict → Type 0
TakesVerdict before after symbol the_verdict = (symbols : List (List ℕ)) (verdicts : List Verdict)
    → before symbols verdicts → after (symbols ++ symbol ∷ []) (verdicts ++ the_verdict ∷ [])

-- The list has been handed the verdicts of a rule on these symbols, each alone over these records.
pub record HasTakenVerdicts {L : Type 0} (has_taken : L → List (List ℕ) → List Verdict → Type 0)
    (rule : Rule) (entries : List OrderRecord) (trades : List TradeRecord)
    (symbols : List (List ℕ)) (handed : L) : Type 0 where
  pub verdicts : List Verdict
  pub verdicts_are : AreVerdicts rule false entries trades symbols verdicts
  pub has : has_taken handed symbols verdicts

-- whatever records the day has, the list has been handed the verdicts on the symbols of the share
abbrev pub HasTakenShare : {L : Type 0} → (L → List (List ℕ) → List Verdict → Type 0) → Rule
    → DayShare → DayRecords → L → Type 0
HasTakenShare has_taken rule share ended handed =
    (entries : List OrderRecord) (trades : List TradeRecord)
    → HasTradesOf share (admission_of rule) entries ended trades
    → HasTakenVerdicts has_taken rule entries trades
    (symbols_in share (symbols_of_day entries trades)) handed
