-- The statuses: their numbers, and the status of a verdict.
use Rattle.std.specs.Prelude.{ℕ}
use Rattle.audit_report.specs.declared.statuses.Status.{Status}
use Rattle.audit_report.specs.declared.statuses.Status.TheVariants.{Accepted, Rejected, Usage, Malformed, ReadFault, WriteFault, TooLong, Memory}
use Rattle.audit_report.specs.declared.verdicts.Verdict.{Verdict}
use Rattle.audit_report.specs.declared.verdicts.Verdict.TheVariants as verdict

-- the number that the program ends with
abbrev pub status_number : Status → ℕ
status_number Accepted = 0
status_number Rejected = 1
status_number Usage = 2
status_number Malformed = 3
status_number ReadFault = 4
status_number WriteFault = 5
status_number TooLong = 6
status_number Memory = 7

-- the status that a verdict is answered with
abbrev pub verdict_status : Verdict → Status
verdict_status (verdict.Accepted accepted) = Accepted
verdict_status (verdict.Rejected finding) = Rejected
verdict_status (verdict.Malformed log bad) = Malformed
