-- A verdict on two logs with their digests.
use Rattle.std.specs.Prelude.{◌≡◌, ℕ, true, List, Result, Ok, Err}
use Rattle.audit_base.specs.declared.terms.Which.{Which}
use Rattle.audit_base.specs.declared.terms.Which.TheVariants.{Orders, Trades}
use Rattle.audit_report.specs.declared.verdicts.Verdict.{Verdict}
use Rattle.log_digests.specs.Digests.{digest_of}
use Rattle.log_digests.specs.declared.digests.LogDigests.{LogDigests}
use Rattle.log_verdict.specs.Steps.{Reading}
use Rattle.log_verdict.specs.declared.stops.Stop.{Stop}
use Rattle.desk_filing.specs.declared.digested_verdicts.DigestedVerdict.{DigestedVerdict}

-- what was answered, without digests
abbrev pub verdict_alone : Result DigestedVerdict Stop → Result Verdict Stop
verdict_alone (Ok made) = Ok made.verdict
verdict_alone (Err stop) = Err stop

-- the digest of a log, of these
abbrev pub digest_in : LogDigests → Which → List ℕ
digest_in digests Orders = digests.orders
digest_in digests Trades = digests.trades

-- whatever is known of the logs, the digest of each is that of the bytes that its slot gave
abbrev pub AreDigestsOfGiven : Reading → LogDigests → Type 0
AreDigestsOfGiven r digests = (log : Which) (bytes : List ℕ)
    → (r.after log).gave bytes ≡ true → digest_in digests log ≡ digest_of bytes
