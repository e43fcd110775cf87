-- What a command answers, a status and a text: by a verdict, and where it was done in full.
use Rattle.std.specs.Prelude.{◌≡◌, ℕ, List}
use Rattle.audit_report.specs.declared.statuses.Status.{Status}
use Rattle.audit_report.specs.declared.statuses.Status.TheVariants.{Accepted}
use Rattle.audit_report.specs.declared.verdicts.Verdict.{Verdict}
use Rattle.audit_report.specs.Statuses.{verdict_status}
use Rattle.audit_report.specs.Texts.{verdict_text}
use Rattle.record_verdict.specs.declared.questions.Question.{Question}
use Rattle.log_verdict.specs.LogVerdicts.{Log, IsLogVerdict}

-- The answer is this status with this text.
pub record IsAnswerWith (the_status : Status) (the_text : List ℕ) (status : Status)
    (text : List ℕ) : Type 0 where
  pub status_is : status ≡ the_status
  pub text_is : text ≡ the_text

-- The answer is that of a verdict: its status and its text.
pub record IsVerdictAnswer (verdict : Verdict) (status : Status) (text : List ℕ) : Type 0 where
  pub status_is : status ≡ verdict_status verdict
  pub text_is : text ≡ verdict_text verdict

-- `audit`: the answer is that of the verdict on the two logs.
pub record IsAuditAnswer (q : Question) (orders trades : Log) (status : Status)
    (text : List ℕ) : Type 0 where
  pub verdict : Verdict
  pub is : IsLogVerdict q orders trades verdict
  pub answer : IsVerdictAnswer verdict status text

-- The command was done in full: the status is 0, and the text is of this kind.
pub record IsDone (is_text : List ℕ → Type 0) (status : Status) (text : List ℕ) : Type 0 where
  pub done : status ≡ Accepted
  pub is : is_text text
