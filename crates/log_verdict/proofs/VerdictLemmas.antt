-- The verdict on two logs that were read up to the rule, or not read into records.
use Rattle.std.proofs.Common.{◌≡◌, refl, Err}
use Rattle.std.specs.Prelude.{Result}
use Rattle.audit_report.specs.declared.verdicts.Verdict.TheVariants.{Malformed}
use Rattle.record_verdict.specs.declared.before_rule.BeforeRule.{BeforeRule}
use Rattle.record_verdict.specs.declared.questions.Question.{Question}
use Rattle.record_verdict.specs.declared.verdicts.RecordVerdict.{RecordVerdict}
use Rattle.record_verdict.specs.BeforeRule.{IsBeforeRule}
use Rattle.record_verdict.specs.RecordVerdict.{as_verdict}
use Rattle.record_verdict.specs.RecordVerdicts.{IsRecordVerdict}
use Rattle.record_verdict.specs.Scopes.{scope_of}
use Rattle.record_verdict.specs.Stages.{IsVerdictAfterStages}
use Rattle.log_verdict.specs.declared.sources.Source.{Source}
use Rattle.log_verdict.specs.declared.stops.NoRecords.{NoRecords}
use Rattle.log_verdict.specs.declared.stops.NoRecords.TheVariants as norecords
use Rattle.log_verdict.specs.BothLogs.{GivesVerdictOrStop, IsUnreadOfTwoLogs, ReadsLogs, ReadsVerdict, ReadsWithin, StaysWithin, verdict_without}
use Rattle.log_verdict.specs.Steps.{Reading}
use Rattle.log_verdict.proofs.JoinLemmas.{reads-bad, reads-good}

-- the verdict on what both logs give is the verdict on both
pub reads-verdict : (r : Reading) (q : Question) (orders trades : Source) (reached : BeforeRule) (v : RecordVerdict)
    → ReadsLogs r orders trades (λ entries paired. IsBeforeRule (scope_of q) entries paired reached) (λ log bad. ⊥) → IsVerdictAfterStages q reached v → ReadsVerdict r q orders trades (as_verdict v)
reads-verdict r q orders trades reached v read is =
    reads-good r orders trades (λ entries paired. IsBeforeRule (scope_of q) entries paired reached) (λ entries paired. IsRecordVerdict q entries paired (as_verdict v)) (λ log bad. as_verdict v ≡ Malformed log bad) is.of_records read

-- the first bad place is the verdict on both
pub reads-without : (r : Reading) (q : Question) (orders trades : Source) (why : NoRecords) → IsUnreadOfTwoLogs r orders trades why → GivesVerdictOrStop r q orders trades (verdict_without why)
reads-without r q orders trades (norecords.Malformed log bad) is =
    reads-bad r orders trades (λ entries paired. IsRecordVerdict q entries paired (Malformed log bad)) (λ which place. Malformed log bad ≡ Malformed which place) log bad refl is
reads-without r q orders trades (norecords.Stopped why) is = is

-- and the slots stay as they did
pub stays-without : {T : Type 0} (r : Reading) (why : NoRecords) (result : Result T NoRecords) → result ≡ Err why → ReadsWithin r result → StaysWithin r (verdict_without why)
stays-without r (norecords.Malformed log bad) result is within = rw is at within
stays-without r (norecords.Stopped why) result is within = rw is at within
