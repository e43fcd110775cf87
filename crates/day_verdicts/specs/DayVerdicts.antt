-- The verdicts on the symbols of a day, and its text.
use Rattle.std.specs.Prelude.{◌≡◌, ◌<◌, ◌≤◌, ◌-◌, ◌^◌, ℕ, Bool, true, false, List, Ok}
use Rattle.audit_base.specs.Moments.{Moment}
use Rattle.audit_base.specs.declared.records.OrderRecord.{OrderRecord}
use Rattle.audit_base.specs.declared.records.TradeRecord.{TradeRecord}
use Rattle.audit_base.specs.declared.terms.Rule.{Rule}
use Rattle.audit_report.specs.declared.verdicts.Verdict.{Verdict}
use Rattle.audit_report.specs.declared.verdicts.Verdict.TheVariants as verdict
use Rattle.audit_report.specs.Texts.{verdict_text}
use Rattle.audit_report.specs.declared.day_line.DayCounts.{DayCounts}
use Rattle.day_symbols.specs.Kept.{AreForEach}
use Rattle.day_symbols.specs.Shares.{DayShare, symbols_in}
use Rattle.day_symbols.specs.Symbols.{symbols_of_day}
use Rattle.day_records.specs.declared.day_trades.DayRecords.{DayRecords}
use Rattle.day_records.specs.DayTrades.{HasTradesOf}
use Rattle.day_verdicts.specs.declared.judging.JudgedSymbols.{JudgedSymbols}
use Rattle.day_verdicts.specs.declared.symbol_reports.SymbolReport.{SymbolReport}
use Rattle.day_verdicts.specs.CheckedSymbols.{after_checks, after_given}
use Rattle.day_verdicts.specs.SymbolWalks.{TradesFitPlaces}
use Rattle.day_verdicts.specs.SymbolAnswers.{SymbolAnswer, TellsSymbols, tell_each, told_by}
use Rattle.further_checks.specs.declared.findings.FurtherChecks.{FurtherChecks}
use Rattle.record_verdict.specs.declared.before_rule.BeforeRule.{BeforeRule}
use Rattle.record_verdict.specs.declared.questions.Question.{Question}
use Rattle.record_verdict.specs.declared.verdicts.RecordVerdict.{RecordVerdict}
use Rattle.record_verdict.specs.RecordVerdict.{as_verdict}
use Rattle.record_verdict.specs.RecordVerdicts.{IsRecordVerdict, question}
use Rattle.record_verdict.specs.Scopes.{admission_of}
use Rattle.record_verdict.specs.Stages.{IsVerdictAfterStages}

-- The verdicts of a day.

-- of each of these symbols this is the verdict on these records, by the question about it alone
abbrev pub AreVerdicts : Rule → Bool → List OrderRecord → List TradeRecord → List (List ℕ)
    → List Verdict → Type 0
AreVerdicts rule table entries trades symbols verdicts =
    AreForEach
    (λ symbol. IsRecordVerdict (question rule symbol table) entries (Ok trades)) symbols verdicts

-- a verdict is that the log is accepted
abbrev pub is_acceptance : Verdict → Bool
is_acceptance (verdict.Accepted accepted) = true
is_acceptance (verdict.Rejected finding) = false
is_acceptance (verdict.Malformed log bad) = false

-- what a verdict tells
abbrev pub told_by_verdict : Verdict → SymbolAnswer
told_by_verdict the_verdict =
    record { accepted = is_acceptance the_verdict; text = verdict_text the_verdict }

-- what is told of a symbol by its verdict, and then by the checks that are asked for
abbrev pub told_of_symbol : FurtherChecks → List OrderRecord → List TradeRecord → List ℕ → Verdict
    → SymbolAnswer
told_of_symbol checks entries trades symbol the_verdict =
    after_checks checks entries trades symbol (told_by_verdict the_verdict)

-- what is told of each of these symbols
abbrev pub told_of_symbols : FurtherChecks → List OrderRecord → List TradeRecord → List (List ℕ)
    → List Verdict → List SymbolAnswer
told_of_symbols checks entries trades symbols verdicts =
    tell_each (told_of_symbol checks entries trades) symbols verdicts

-- these are the counts and the lines of the verdicts on these symbols, and of the checks
pub record IsJudgedDay (rule : Rule) (table : Bool) (checks : FurtherChecks)
    (entries : List OrderRecord) (trades : List TradeRecord) (symbols : List (List ℕ))
    (judged : JudgedSymbols) : Type 0 where
  pub verdicts : List Verdict
  pub verdicts_are : AreVerdicts rule table entries trades symbols verdicts
  pub tells : TellsSymbols symbols (told_of_symbols checks entries trades symbols verdicts) judged

-- What functions pass on: one symbol after another.

-- one symbol more can be counted
pub record HasRoomForOne (counts : DayCounts) : Type 0 where
  pub symbols_few : counts.symbols < 2 ^ 64 - 1
  pub accepted_few : counts.accepted ≤ counts.symbols
  pub rejected_few : counts.rejected ≤ counts.symbols

-- This is told of what was given by the verdict on it, and then by the checks.
pub record TellsVerdict (q : Question) (checks : FurtherChecks) (given : BeforeRule)
    (times : List Moment) (report : SymbolReport) : Type 0 where
  pub one : RecordVerdict
  pub is : IsVerdictAfterStages q given one
  pub told_is : told_by report ≡ after_given checks given times (told_by_verdict (as_verdict one))

-- whatever records the day has, these are the counts and lines of the verdicts on the symbols of
-- the share
abbrev pub IsJudgedShare : Rule → Bool → FurtherChecks → DayShare → DayRecords → JudgedSymbols
    → Type 0
IsJudgedShare rule table checks share ended judged =
    (entries : List OrderRecord) (trades : List TradeRecord)
    → HasTradesOf share (admission_of rule) entries ended trades
    → IsJudgedDay rule table checks entries trades
    (symbols_in share (symbols_of_day entries trades)) judged

-- the day has some records by which the rule judges it, of trades fewer than there are places
abbrev pub RuleTradesFitPlaces : Rule → DayShare → DayRecords → Type 0
RuleTradesFitPlaces rule share ended = TradesFitPlaces share (admission_of rule) ended
