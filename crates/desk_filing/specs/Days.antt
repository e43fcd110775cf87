-- The cases of a day, symbol by symbol.
use Rattle.std.specs.Prelude.{◌≡◌, ℕ, false, List, [], ◌∷◌, ◌++◌, Option, None, Some, Result, Err, MatchResult, length, nat_lt, if◌then◌else◌}
use Rattle.audit_base.specs.declared.findings.Finding.{Finding}
use Rattle.audit_base.specs.declared.records.OrderRecord.{OrderRecord}
use Rattle.audit_base.specs.declared.records.TradeRecord.{TradeRecord}
use Rattle.audit_base.specs.declared.terms.Rule.{Rule}
use Rattle.audit_report.specs.Texts.{verdict_text}
use Rattle.audit_report.specs.declared.verdicts.Verdict.{Verdict}
use Rattle.audit_report.specs.declared.verdicts.Verdict.TheVariants.{Malformed, Rejected}
use Rattle.case_run.specs.declared.halts.Halt.{Halt}
use Rattle.case_run.specs.declared.halts.Halt.TheVariants as halt
use Rattle.case_run.specs.declared.statuses.CaseStatus.TheVariants as status
use Rattle.case_run.specs.Turns.{halt_of_stop}
use Rattle.day_logs.specs.declared.before_rule.DayBeforeRule.{DayBeforeRule}
use Rattle.day_logs.specs.declared.before_rule.DayBeforeRule.TheVariants as before_rule
use Rattle.day_symbols.specs.Shares.{symbols_in, whole_day}
use Rattle.day_symbols.specs.Symbols.{symbols_of_day}
use Rattle.day_records.specs.DayTrades.{HasTradesOf}
use Rattle.day_records.specs.declared.day_trades.DayRecords.{DayRecords}
use Rattle.day_verdicts.specs.DayVerdicts.{AreVerdicts}
use Rattle.log_digests.specs.declared.digests.LogDigests.{LogDigests}
use Rattle.desk_filing.specs.Judging.{TellsBadPlace}
use Rattle.desk_filing.specs.Lines.{long_label_line}
use Rattle.desk_filing.specs.Turns.{cases_of_day, digested_case, first_long, label_of_symbol}
use Rattle.case_run.specs.declared.answers.CaseAnswer.{CaseAnswer}
use Rattle.desk_filing.specs.declared.answers.FilingOutcome.{FilingOutcome}
use Rattle.desk_filing.specs.declared.answers.FilingOutcome.TheVariants as judged
use Rattle.desk_filing.specs.declared.days.DayCases.{DayCases}
use Rattle.log_verdict.specs.declared.stops.NoRecords.{NoRecords}
use Rattle.log_verdict.specs.declared.stops.NoRecords.TheVariants as norecords
use Rattle.record_verdict.specs.Scopes.{admission_of}

-- the label of a symbol, if it has no more than 64 bytes
abbrev pub label_if_short : List ℕ → List ℕ → Option (List ℕ)
label_if_short label symbol =
    if nat_lt 64 (length (label_of_symbol label symbol)) then None
    else Some (label_of_symbol label symbol)

-- These are the cases of the symbols so far, or the first whose label is too long.
pub record IsDayOf (label : List ℕ) (the_rule : Rule) (digests : LogDigests) (day : DayCases)
    (symbols : List (List ℕ)) (verdicts : List Verdict) : Type 0 where
  pub label_is : day.label ≡ label
  pub rule_is : day.rule ≡ the_rule
  pub digests_are : day.digests ≡ digests
  pub same_length : length verdicts ≡ length symbols
  pub long_is : day.long ≡ first_long label symbols
  pub cases_are : day.long ≡ None
      → day.cases.items ≡ cases_of_day label the_rule digests symbols verdicts

-- since it was the first of these, the day was handed the verdicts on these symbols
abbrev pub HasDayTaken : DayCases → DayCases → List (List ℕ) → List Verdict → Type 0
HasDayTaken first day symbols verdicts =
    IsDayOf first.label first.rule first.digests day symbols verdicts

-- The label, the rule and the digests of a day stay.
pub record StaysOfDay (old new : DayCases) : Type 0 where
  pub label_stays : new.label ≡ old.label
  pub rule_stays : new.rule ≡ old.rule
  pub digests_stay : new.digests ≡ old.digests

-- where no label was too long so far, the case of a symbol is kept under its label; or, where its
-- label is too long, the symbol is
abbrev pub KeepsCase : DayCases → DayCases → Option (List ℕ) → List ℕ → Verdict → Type 0
KeepsCase old new (Some label) symbol the_verdict =
    StaysOfDay old new × (new.long ≡ None) × (new.cases.items
    ≡ old.cases.items ++ digested_case label old.rule old.digests symbol the_verdict ∷ [])
KeepsCase old new None symbol the_verdict = StaysOfDay old new × (new.long ≡ Some symbol)

-- A label is too long, and the answer tells of which symbol.
pub record TellsLongLabel (long : Option (List ℕ)) (answer : CaseAnswer) : Type 0 where
  pub symbol : List ℕ
  pub is : long ≡ Some symbol
  pub status_is : answer.status ≡ status.Refused
  pub text_is : answer.text.items ≡ long_label_line symbol

-- what the symbols of a day with these verdicts come to: their cases, or that a label is too long
abbrev pub IsJudgedDayOf : List ℕ → Rule → LogDigests → List (List ℕ) → List Verdict → FilingOutcome
    → Type 0
IsJudgedDayOf label the_rule digests symbols verdicts (judged.Cases cases) =
    (first_long label symbols ≡ None)
    × (cases.items ≡ cases_of_day label the_rule digests symbols verdicts)
IsJudgedDayOf label the_rule digests symbols verdicts (judged.Refused answer) =
    TellsLongLabel (first_long label symbols) answer

-- whatever symbols and verdicts a day was handed, this is what they come to
abbrev pub IsJudgedAs : DayCases → FilingOutcome → Type 0
IsJudgedAs day judged = (label : List ℕ) (the_rule : Rule) (digests : LogDigests)
    (symbols : List (List ℕ)) (verdicts : List Verdict)
    → IsDayOf label the_rule digests day symbols verdicts
    → IsJudgedDayOf label the_rule digests symbols verdicts judged

-- This is what a day of these records comes to.
pub record JudgesRecords (label : List ℕ) (the_rule : Rule) (digests : LogDigests)
    (entries : List OrderRecord) (trades : List TradeRecord) (judged : FilingOutcome) : Type 0 where
  pub verdicts : List Verdict
  pub are : AreVerdicts the_rule false entries trades
      (symbols_in whole_day (symbols_of_day entries trades)) verdicts
  pub is : IsJudgedDayOf label the_rule digests
      (symbols_in whole_day (symbols_of_day entries trades)) verdicts judged

-- whatever records the day has, this is what it comes to
abbrev pub JudgesDay : List ℕ → Rule → LogDigests → DayRecords → FilingOutcome → Type 0
JudgesDay label the_rule digests ended judged =
    (entries : List OrderRecord) (trades : List TradeRecord)
    → HasTradesOf whole_day (admission_of the_rule) entries ended trades
    → JudgesRecords label the_rule digests entries trades judged

-- The answer tells that the reports of the trade log do not pair.
pub record TellsUnpaired (finding : Finding) (answer : CaseAnswer) : Type 0 where
  pub status_is : answer.status ≡ status.Refused
  pub text_is : answer.text.items ≡ verdict_text (Rejected finding)

-- nothing is filed, and this holds of the answer
abbrev pub IsRefusedBy : (CaseAnswer → Type 0) → FilingOutcome → Type 0
IsRefusedBy tells (judged.Cases cases) = ⊥
IsRefusedBy tells (judged.Refused answer) = tells answer

-- what two logs come to, by what their records give before the rule is looked at
abbrev pub JudgesGiven : List ℕ → Rule → LogDigests → DayBeforeRule → FilingOutcome → Type 0
JudgesGiven label the_rule digests (before_rule.Read ended) judged =
    JudgesDay label the_rule digests ended judged
JudgesGiven label the_rule digests (before_rule.Unpaired finding) judged =
    IsRefusedBy (TellsUnpaired finding) judged

-- what two logs come to that were not read into records: the answer to their first bad place, or
-- why there is none
abbrev pub JudgesWithout : NoRecords → Result FilingOutcome Halt → Type 0
JudgesWithout (norecords.Malformed log bad) result =
    MatchResult result (IsRefusedBy (TellsBadPlace (Malformed log bad)))
    (λ why. why ≡ halt.Memory)
JudgesWithout (norecords.Stopped why) result = result ≡ Err (halt_of_stop why)
