-- What is known of a log that `digest` reads.
use Rattle.std.specs.Prelude.{◌≡◌, ℕ, List, Result, MatchResult}
use Rattle.audit_base.specs.declared.terms.Which.{Which}
use Rattle.audit_report.specs.declared.statuses.Status.{Status}
use Rattle.audit_report.specs.declared.statuses.Status.TheVariants.{Accepted}
use Rattle.command_run.specs.VerdictAnswers.{IsAnswerWith}
use Rattle.log_digests.specs.DigestLines.{digest_text}
use Rattle.log_digests.specs.Digests.{digest_of}
use Rattle.log_source.specs.declared.take.TakeFault.{TakeFault}
use Rattle.log_source.specs.declared.take.TakeFault.TheVariants as take
use Rattle.log_verdict.specs.declared.stops.Stop.{Stop}
use Rattle.log_verdict.specs.declared.stops.Stop.TheVariants as stop
use Rattle.log_verdict.specs.BothLogs.{IsLogStop}
use Rattle.log_verdict.specs.Steps.{Reading, IsReadAs}

-- why there is no answer to a log, by why it was not taken whole
abbrev pub stop_of_take : Which → TakeFault → Stop
stop_of_take log take.Fault = stop.ReadFault log
stop_of_take log take.TooLong = stop.TooLong log
stop_of_take log take.Memory = stop.Memory

-- what is under this name was read to its end, and this is its digest; or there is none for a
-- cause
abbrev pub GivesDigest : Reading → Which → List ℕ → Result (List ℕ) Stop → Type 0
GivesDigest r log name result =
    MatchResult result (λ digest. IsReadAs r log name (λ bytes. digest ≡ digest_of bytes))
    (IsLogStop r log name)

-- the answer to a trade log with these bytes, after an order log of this digest
abbrev pub IsDigestAnswer : List ℕ → List ℕ → Status → List ℕ → Type 0
IsDigestAnswer digest bytes = IsAnswerWith Accepted (digest_text digest (digest_of bytes))
