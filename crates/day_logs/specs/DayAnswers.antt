-- The answer to two logs of a day: the verdicts on its symbols, finding 4 alone, or a first bad
-- place.
use Rattle.std.specs.Prelude.{◌≡◌, List, Result, Ok, Err, IsOkAnd, MatchResult}
use Rattle.audit_base.specs.declared.findings.Finding.{Finding}
use Rattle.audit_base.specs.declared.records.OrderRecord.{OrderRecord}
use Rattle.audit_base.specs.declared.records.TradeRecord.{TradeRecord}
use Rattle.day_logs.specs.declared.answers.DayAnswer.{DayAnswer}
use Rattle.day_logs.specs.declared.answers.DayAnswer.TheVariants as answer
use Rattle.day_logs.specs.declared.answers.DayQuestion.{DayQuestion}
use Rattle.day_logs.specs.declared.before_rule.DayBeforeRule.{DayBeforeRule}
use Rattle.day_logs.specs.DayBeforeRule.{IsDayBeforeRule}
use Rattle.day_symbols.specs.Shares.{DayShare, symbols_in}
use Rattle.day_symbols.specs.Symbols.{symbols_of_day}
use Rattle.day_verdicts.specs.DayVerdicts.{IsJudgedDay}
use Rattle.day_verdicts.specs.declared.judging.JudgedSymbols.{JudgedSymbols}
use Rattle.log_verdict.specs.declared.sources.Source.{Source}
use Rattle.log_verdict.specs.declared.stops.Stop.{Stop}
use Rattle.log_verdict.specs.declared.stops.NoRecords.{NoRecords}
use Rattle.log_verdict.specs.declared.stops.NoRecords.TheVariants as norecords
use Rattle.log_verdict.specs.BothLogs.{IsStopOfTwoLogs, ReadsLogs}
use Rattle.log_verdict.specs.LogVerdicts.{Log, OfLogs}
use Rattle.log_verdict.specs.Steps.{Reading}
use Rattle.record_verdict.specs.declared.scopes.Admission.{Admission}

-- what the counts and lines of a day mean, of some order records and some trades
abbrev pub DayMeaning : Type 1
DayMeaning = List OrderRecord → JudgedSymbols → List TradeRecord → Type 0

-- these are the counts and lines of the verdicts on the symbols of the share, in these records,
-- and of the further checks behind them
abbrev pub AreVerdictsOfDay : DayQuestion → DayMeaning
AreVerdictsOfDay q entries judged trades =
    IsJudgedDay q.rule q.table q.checks entries trades
    (symbols_in q.share (symbols_of_day entries trades)) judged

-- the answer to the records of both logs: counts and lines that mean this of them; or finding 4
-- alone, exactly where the reports of the trade log do not pair
abbrev pub IsAnswerToRecords : DayMeaning → List OrderRecord → Result (List TradeRecord) Finding
    → DayAnswer → Type 0
IsAnswerToRecords meaning entries paired (answer.Judged judged) =
    IsOkAnd paired (meaning entries judged)
IsAnswerToRecords meaning entries paired (answer.Unpaired finding) = paired ≡ Err finding
IsAnswerToRecords meaning entries paired (answer.Malformed log bad) = ⊥

-- the answer to two logs: that to their records, or the first bad place
abbrev pub IsAnswerToLogs : DayMeaning → Log → Log → DayAnswer → Type 0
IsAnswerToLogs meaning orders trades the_answer =
    OfLogs (λ entries paired. IsAnswerToRecords meaning entries paired the_answer)
    (λ log bad. the_answer ≡ answer.Malformed log bad) orders trades

-- both logs were read, and this is the answer to them
abbrev pub ReadsDayAnswer : Reading → DayMeaning → Source → Source → DayAnswer → Type 0
ReadsDayAnswer r meaning orders trades the_answer =
    ReadsLogs r orders trades
    (λ entries paired. IsAnswerToRecords meaning entries paired the_answer)
    (λ log bad. the_answer ≡ answer.Malformed log bad)

-- the answer to both logs, or why there is none
abbrev pub GivesDayAnswerOrStop : Reading → DayMeaning → Source → Source → Result DayAnswer Stop
    → Type 0
GivesDayAnswerOrStop r meaning orders trades result =
    MatchResult result (ReadsDayAnswer r meaning orders trades) (IsStopOfTwoLogs r orders trades)

-- What functions pass on.

-- the answer to what the records of two logs give before the rule is looked at: of whatever
-- records give this, the answer to them
abbrev pub IsAnswerUpToRule : DayShare → Admission → DayMeaning → DayBeforeRule → DayAnswer → Type 0
IsAnswerUpToRule share admission meaning given the_answer =
    (entries : List OrderRecord) (paired : Result (List TradeRecord) Finding)
    → IsDayBeforeRule share admission entries paired given
    → IsAnswerToRecords meaning entries paired the_answer

-- the answer to two logs that were not read into records: their first bad place, or there is none
abbrev pub day_without : NoRecords → Result DayAnswer Stop
day_without (norecords.Malformed log bad) = Ok (answer.Malformed log bad)
day_without (norecords.Stopped why) = Err why
