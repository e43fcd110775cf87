-- That two logs have a verdict on every question, as a statement.
use Rattle.std.specs.Prelude.{◌≡◌, ◌≤◌, length}
use Rattle.audit_report.specs.declared.verdicts.Verdict.{Verdict}
use Rattle.log_source.specs.Sources.{longest_read}
use Rattle.record_verdict.specs.declared.questions.Question.{Question}
use Rattle.log_verdict.specs.LogVerdicts.{Log, IsLogVerdict}

-- A verdict that is the only one.
pub record IsOnlyVerdict (q : Question) (orders trades : Log) (verdict : Verdict)
    : Type 0 where
  pub is : IsLogVerdict q orders trades verdict
  pub one : (other : Verdict) → IsLogVerdict q orders trades other → other ≡ verdict

-- whatever bytes two logs have, in whatever forms, they have exactly one verdict on each
-- question; of the order log there are at most as many bytes as a reading may be given
abbrev pub LogVerdictExists : Type 0
LogVerdictExists = (q : Question) (orders trades : Log) → length orders.bytes ≤ longest_read
    → (verdict : Verdict) × IsOnlyVerdict q orders trades verdict
