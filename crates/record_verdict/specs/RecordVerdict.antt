-- The verdict on the records of two logs, as a verdict on the logs.
use Rattle.audit_report.specs.declared.verdicts.Verdict.{Verdict}
use Rattle.audit_report.specs.declared.verdicts.Verdict.TheVariants as verdict
use Rattle.audit_report.specs.Texts.{IsVerdictInRange}
use Rattle.record_verdict.specs.declared.verdicts.RecordVerdict.{RecordVerdict}
use Rattle.record_verdict.specs.declared.verdicts.RecordVerdict.TheVariants as judged

-- the verdict on two logs that have the records
abbrev pub as_verdict : RecordVerdict → Verdict
as_verdict (judged.Accepted accepted) = verdict.Accepted accepted
as_verdict (judged.Rejected finding) = verdict.Rejected finding

-- what the verdict says is in its range
abbrev pub IsJudgedInRange : RecordVerdict → Type 0
IsJudgedInRange the_judged = IsVerdictInRange (as_verdict the_judged)
