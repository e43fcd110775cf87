-- What a verdict comes to, as the functions of `file` and `check` pass it on.
use Rattle.std.specs.Prelude.{◌≡◌, ◌≢◌, ◌⊎◌, ◌==◌, ◌&&◌, ℕ, Bool, true, false, List, [], ◌∷◌, Option, None, Some, IsSomeAnd, Result, Err, MatchResult}
use Rattle.audit_base.specs.declared.faults.BadPlace.{BadPlace}
use Rattle.audit_base.specs.declared.terms.Which.{Which}
use Rattle.audit_report.specs.Lines.{malformed_line}
use Rattle.audit_report.specs.declared.verdicts.Verdict.{Verdict}
use Rattle.audit_report.specs.declared.verdicts.Verdict.TheVariants.{Accepted, Malformed, Rejected}
use Rattle.audit_base.specs.declared.terms.Rule.{Rule}
use Rattle.case_keeper.specs.declared.case.Case.{Case}
use Rattle.case_keeper.specs.declared.case.Offence.{Offence}
use Rattle.digest_keeper.specs.declared.digested.DigestedCase.{DigestedCase}
use Rattle.case_run.specs.Turns.{halt_of_stop}
use Rattle.case_run.specs.declared.halts.Halt.{Halt}
use Rattle.case_run.specs.declared.halts.Halt.TheVariants as halt
use Rattle.case_run.specs.declared.statuses.CaseStatus.TheVariants as status
use Rattle.log_digests.specs.declared.digests.LogDigests.{LogDigests}
use Rattle.desk_filing.specs.Lines.{comparison_line}
use Rattle.desk_filing.specs.Turns.{IsFirstDifference, comparison_status, digested_case, offence_in}
use Rattle.case_run.specs.declared.answers.CaseAnswer.{CaseAnswer}
use Rattle.desk_filing.specs.declared.answers.FilingOutcome.{FilingOutcome}
use Rattle.desk_filing.specs.declared.answers.FilingOutcome.TheVariants as judged
use Rattle.desk_filing.specs.declared.differences.AuditedLogs.{AuditedLogs}
use Rattle.desk_filing.specs.declared.differences.CaseDifference.{CaseDifference}
use Rattle.log_verdict.specs.declared.stops.NoRecords.{NoRecords}
use Rattle.log_verdict.specs.declared.stops.NoRecords.TheVariants as norecords
use Rattle.record_verdict.specs.declared.questions.Question.{Question}
use Rattle.symbol_offences.specs.OffenceLines.{absent_line}

-- both logs are in their grammar
abbrev pub IsNoBadPlace : Verdict → Type 0
IsNoBadPlace v = (log : Which) (bad : BadPlace) → v ≢ Malformed log bad

-- The verdict is a first bad place, and the answer tells it.
pub record TellsBadPlace (v : Verdict) (answer : CaseAnswer) : Type 0 where
  pub log : Which
  pub bad : BadPlace
  pub is : v ≡ Malformed log bad
  pub status_is : answer.status ≡ status.Malformed
  pub text_is : answer.text.items ≡ malformed_line log bad

-- the answer to two logs that were not read into records: to their first bad place, or why there is
-- none
abbrev pub LooksWithout : NoRecords → Result (Option CaseAnswer) Halt → Type 0
LooksWithout (norecords.Malformed log bad) result =
    MatchResult result (λ found. IsSomeAnd found (TellsBadPlace (Malformed log bad)))
    (λ why. why ≡ halt.Memory)
LooksWithout (norecords.Stopped why) result = result ≡ Err (halt_of_stop why)

-- the case of an audit that ended so, on logs of these digests
abbrev pub case_that_ended : List ℕ → Rule → LogDigests → List ℕ → Option Offence → DigestedCase
case_that_ended label the_rule digests symbol offence = record {
  case = record { label = label; rule = the_rule; symbol = symbol; offence = offence };
  digests = digests;
}

-- the verdict accepts a symbol that has no order and no trade
abbrev pub accepts_nothing : Verdict → Bool
accepts_nothing (Accepted accepted) = accepted.orders == 0 && accepted.trades == 0
accepts_nothing (Rejected finding) = false
accepts_nothing (Malformed log bad) = false

-- The verdict accepts a symbol that has no order and no trade, and the answer tells that it is
-- absent.
pub record TellsAbsent (symbol : List ℕ) (v : Verdict) (answer : CaseAnswer) : Type 0 where
  pub nothing : accepts_nothing v ≡ true
  pub status_is : answer.status ≡ status.Refused
  pub text_is : answer.text.items ≡ absent_line symbol

-- The case of a verdict on a symbol that is not absent.
pub record IsCaseOfVerdict (digests : LogDigests) (label : List ℕ) (q : Question) (v : Verdict)
    (cases : List DigestedCase) : Type 0 where
  pub one : cases ≡ digested_case label q.rule digests q.symbol v ∷ []
  pub no_bad_place : IsNoBadPlace v
  pub something : accepts_nothing v ≡ false

-- what a verdict comes to: its case, or the answer that a log is not in its grammar, or that the
-- symbol is absent
abbrev pub IsJudgedVerdict : LogDigests → List ℕ → Question → Verdict → FilingOutcome → Type 0
IsJudgedVerdict digests label q v (judged.Cases cases) =
    IsCaseOfVerdict digests label q v cases.items
IsJudgedVerdict digests label q v (judged.Refused answer) =
    TellsBadPlace v answer ⊎ TellsAbsent q.symbol v answer

-- The answer tells what differs first of two audits.
pub record TellsFirst (label : List ℕ) (filed now : AuditedLogs) (answer : CaseAnswer) : Type 0 where
  pub difference : Option CaseDifference
  pub first : IsFirstDifference filed now difference
  pub status_is : answer.status ≡ comparison_status difference
  pub text_is : answer.text.items ≡ comparison_line label difference

-- The answer tells how the audit of a case, on logs of these digests, compares with a verdict on
-- logs of those.
pub record TellsDifference (label : List ℕ) (case : Case) (filed now : LogDigests) (v : Verdict)
    (answer : CaseAnswer) : Type 0 where
  pub no_bad_place : IsNoBadPlace v
  pub tells : TellsFirst label (record { digests = filed; offence = case.offence })
      (record { digests = now; offence = offence_in v }) answer

-- what a verdict comes to beside a case
abbrev pub IsComparedVerdict : List ℕ → Case → LogDigests → LogDigests → Verdict → CaseAnswer → Type 0
IsComparedVerdict label case filed now v answer =
    TellsDifference label case filed now v answer ⊎ TellsBadPlace v answer
