-- What `generate` answers, and that a certificate that was written is verified.
use Rattle.std.specs.Prelude.{◌≡◌, ◌⊎◌, ℕ, List, Some}
use Rattle.audit_report.specs.declared.statuses.Status.{Status}
use Rattle.audit_report.specs.declared.statuses.Status.TheVariants as status
use Rattle.log_source.specs.Sinks.{SinkState}
use Rattle.record_verdict.specs.declared.questions.Question.{Question}
use Rattle.command_words.specs.declared.requests.Request.TheVariants.{Generate}
use Rattle.audit_run.specs.Certificates.{IsCertifyAnswer, IsVerifyAnswer}
use Rattle.audit_run.specs.Runs.{AuditorAnswersWithCause}
use Rattle.log_verdict.specs.LogVerdicts.{Log}
use Rattle.log_verdict.specs.Steps.{Reading}

-- `generate` reads no log and always writes a summary: it answers 0, 5 (the sink failed) or 7
-- (memory ran out)
abbrev pub GenerateWrites : Type 0
GenerateWrites = (start count : ℕ) (r : Reading) (old new : SinkState) (the_status : Status)
    → AuditorAnswersWithCause (Some (Generate start count)) r old new the_status
    → (the_status ≡ status.Accepted)
    ⊎ ((the_status ≡ status.WriteFault) ⊎ (the_status ≡ status.Memory))

-- certified is verified: over the same logs, what `certify` wrote as a certificate is not refused
abbrev pub CertifiedIsVerified : Type 0
CertifiedIsVerified = (q : Question) (orders trades : Log) (certificate text : List ℕ)
    (the_status : Status) → IsCertifyAnswer q orders trades status.Accepted certificate
    → IsVerifyAnswer q.symbol orders trades certificate the_status text
    → the_status ≡ status.Accepted
