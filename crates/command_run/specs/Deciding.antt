-- What a command decides: its answer, or why there is none.
use Rattle.std.specs.Prelude.{◌≡◌, ◌++◌, ℕ, List, Result, Err, MatchResult}
use Rattle.audit_base.specs.declared.terms.Which.{Which}
use Rattle.audit_report.specs.declared.statuses.Status.{Status}
use Rattle.audit_report.specs.declared.statuses.Status.TheVariants as status
use Rattle.audit_report.specs.declared.verdicts.Verdict.TheVariants.{Malformed}
use Rattle.audit_report.specs.Lines.{read_fault_line, too_long_line}
use Rattle.log_verdict.specs.declared.reading.ReadingFault.{ReadingFault}
use Rattle.log_verdict.specs.declared.sources.Source.{Source}
use Rattle.log_verdict.specs.declared.stops.Stop.{Stop}
use Rattle.log_verdict.specs.declared.stops.Stop.TheVariants as stop
use Rattle.log_verdict.specs.declared.stops.NoRecords.{NoRecords}
use Rattle.log_verdict.specs.declared.stops.NoRecords.TheVariants as norecords
use Rattle.log_verdict.specs.BothLogs.{IsLogStop, no_records}
use Rattle.log_verdict.specs.LogVerdicts.{Log, log_in}
use Rattle.log_verdict.specs.Steps.{Reading, IsReadAs}
use Rattle.command_run.specs.declared.answers.Answer.{Answer}
use Rattle.command_run.specs.Commands.{Command}
use Rattle.command_run.specs.Runs.{IsEarlyText, ReadingDecides}
use Rattle.command_run.specs.VerdictAnswers.{IsVerdictAnswer}

-- the status and the text of this answer are of this kind
abbrev pub IsAnswerOfKind : (Status → List ℕ → Type 0) → Answer → Type 0
IsAnswerOfKind is_answer answer = is_answer answer.status answer.text.items

-- reading stopped for this cause: what it decides is the line that says so; where memory ran out
-- there is nothing to write
abbrev pub ReadingStops : Reading → Command → Stop → Type 0
ReadingStops r command (stop.ReadFault log) =
    ReadingDecides r command status.ReadFault (read_fault_line log)
ReadingStops r command (stop.TooLong log) =
    ReadingDecides r command status.TooLong (too_long_line log)
ReadingStops r command stop.Memory = Unit {0}

-- the answer that the reading decides, or why there is none
abbrev pub DecidesAnswer : Reading → Command → Result Answer Stop → Type 0
DecidesAnswer r command result =
    MatchResult result (IsAnswerOfKind (ReadingDecides r command)) (ReadingStops r command)

-- reading stopped for this cause after this text was written: what it decides is that text and the
-- line that says so; where memory ran out, the text alone was written before all was read
abbrev pub RestStops : Reading → Command → List ℕ → Stop → Type 0
RestStops r command early (stop.ReadFault log) =
    ReadingDecides r command status.ReadFault (early ++ read_fault_line log)
RestStops r command early (stop.TooLong log) =
    ReadingDecides r command status.TooLong (early ++ too_long_line log)
RestStops r command early stop.Memory = IsEarlyText r command early

-- this text was written while logs were read: what the reading decides is it and the text of the
-- answer behind it, or there is no answer for a cause
abbrev pub DecidesRest : Reading → Command → List ℕ → Result Answer Stop → Type 0
DecidesRest r command early result =
    MatchResult result
    (λ answer. ReadingDecides r command answer.status (early ++ answer.text.items))
    (RestStops r command early)

-- what is under this name was read to its end, and this is the answer to its bytes; or there is
-- none for a cause
abbrev pub DecidesBytes : Reading → Which → List ℕ → (List ℕ → Status → List ℕ → Type 0)
    → Result Answer Stop → Type 0
DecidesBytes r which name is_answer result =
    MatchResult result
    (λ answer. IsReadAs r which name (λ bytes. IsAnswerOfKind (is_answer bytes) answer))
    (IsLogStop r which name)

-- a log was read to its end, and this is the answer to it; or there is none for a cause
abbrev pub DecidesLog : Reading → Which → Source → (Log → Status → List ℕ → Type 0)
    → Result Answer Stop → Type 0
DecidesLog r which source is_answer result =
    DecidesBytes r which source.name.now (λ bytes. is_answer (log_in source.form bytes)) result

-- what is decided where logs were not read into records: the answer is the first bad place, or
-- there is none for a cause
abbrev pub DecidesWithout : NoRecords → Result Answer Stop → Type 0
DecidesWithout (norecords.Malformed log bad) result =
    MatchResult result (IsAnswerOfKind (IsVerdictAnswer (Malformed log bad)))
    (λ why. why ≡ stop.Memory)
DecidesWithout (norecords.Stopped why) result = result ≡ Err why

-- the same where this one log was not
abbrev pub DecidesUnread : Which → ReadingFault → Result Answer Stop → Type 0
DecidesUnread log why result = DecidesWithout (no_records log why) result

-- the statuses of an answer to logs that were read
abbrev pub IsStatusOfLogs : Status → Type 0
IsStatusOfLogs status.Accepted = Unit {0}
IsStatusOfLogs status.Rejected = Unit {0}
IsStatusOfLogs status.Malformed = Unit {0}
IsStatusOfLogs status.Usage = ⊥
IsStatusOfLogs status.ReadFault = ⊥
IsStatusOfLogs status.WriteFault = ⊥
IsStatusOfLogs status.TooLong = ⊥
IsStatusOfLogs status.Memory = ⊥
