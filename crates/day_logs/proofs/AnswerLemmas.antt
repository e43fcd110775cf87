-- The answer to two logs of a day that were read.
use Rattle.std.proofs.Common.{◌≡◌, refl, List, Result, Ok, Err}
use Rattle.audit_base.specs.declared.findings.Finding.{Finding}
use Rattle.audit_base.specs.declared.records.OrderRecord.{OrderRecord}
use Rattle.audit_base.specs.declared.records.TradeRecord.{TradeRecord}
use Rattle.day_symbols.specs.Shares.{DayShare}
use Rattle.record_verdict.specs.declared.scopes.Admission.{Admission}
use Rattle.day_records.specs.declared.day_trades.DayRecords.{DayRecords}
use Rattle.day_verdicts.specs.declared.judging.JudgedSymbols.{JudgedSymbols}
use Rattle.day_verdicts.specs.DayVerdicts.{IsJudgedShare}
use Rattle.log_verdict.specs.declared.sources.Source.{Source}
use Rattle.log_verdict.specs.declared.stops.NoRecords.{NoRecords}
use Rattle.log_verdict.specs.declared.stops.NoRecords.TheVariants as norecords
use Rattle.log_verdict.specs.BothLogs.{IsUnreadOfTwoLogs, ReadsLogs, ReadsWithin, StaysWithin}
use Rattle.log_verdict.specs.Steps.{Reading}
use Rattle.record_verdict.specs.Scopes.{admission_of}
use Rattle.day_logs.specs.declared.answers.DayAnswer.{DayAnswer}
use Rattle.day_logs.specs.declared.answers.DayAnswer.TheVariants as answer
use Rattle.day_logs.specs.declared.answers.DayQuestion.{DayQuestion}
use Rattle.day_logs.specs.declared.before_rule.DayBeforeRule.{DayBeforeRule}
use Rattle.day_logs.specs.declared.before_rule.DayBeforeRule.TheVariants as before_rule
use Rattle.day_logs.specs.DayAnswers.{day_without, DayMeaning, GivesDayAnswerOrStop, IsAnswerToRecords, IsAnswerUpToRule, AreVerdictsOfDay, ReadsDayAnswer}
use Rattle.day_logs.specs.DayBeforeRule.{IsDayBeforeRule}
use Rattle.log_verdict.proofs.JoinLemmas.{reads-bad, reads-good}

-- the answer to what the records of both logs come to is the answer to both
pub reads-answer : (r : Reading) (share : DayShare) (admission : Admission) (meaning : DayMeaning) (orders trades : Source) (given : DayBeforeRule) (a : DayAnswer)
    → ReadsLogs r orders trades (λ entries paired. IsDayBeforeRule share admission entries paired given) (λ log bad. ⊥) → IsAnswerUpToRule share admission meaning given a → ReadsDayAnswer r meaning orders trades a
reads-answer r share admission meaning orders trades given a read is =
    reads-good r orders trades (λ entries paired. IsDayBeforeRule share admission entries paired given) (λ entries paired. IsAnswerToRecords meaning entries paired a) (λ log bad. a ≡ answer.Malformed log bad) is read

-- so is their first bad place
pub reads-without : (r : Reading) (meaning : DayMeaning) (orders trades : Source) (why : NoRecords) → IsUnreadOfTwoLogs r orders trades why → GivesDayAnswerOrStop r meaning orders trades (day_without why)
reads-without r meaning orders trades (norecords.Malformed log bad) is =
    reads-bad r orders trades (λ entries paired. IsAnswerToRecords meaning entries paired (answer.Malformed log bad)) (λ which place. answer.Malformed log bad ≡ answer.Malformed which place) log bad refl is
reads-without r meaning orders trades (norecords.Stopped why) is = is

-- and the slots stay within the limit as they did
pub stays-without : {T : Type 0} (r : Reading) (why : NoRecords) (result : Result T NoRecords) → result ≡ Err why → ReadsWithin r result → StaysWithin r (day_without why)
stays-without r (norecords.Malformed log bad) result is within = rw is at within
stays-without r (norecords.Stopped why) result is within = rw is at within

-- The answer to what two logs come to: their verdicts.
pub judged-up-to : (q : DayQuestion) (ended : DayRecords) (judged : JudgedSymbols) → IsJudgedShare q.rule q.table q.checks q.share ended judged → IsAnswerUpToRule q.share (admission_of q.rule) (AreVerdictsOfDay q) (before_rule.Read ended) (answer.Judged judged)
judged-up-to q ended judged is = of-records
  where
    of-records : (entries : List OrderRecord) (paired : Result (List TradeRecord) Finding) → IsDayBeforeRule q.share (admission_of q.rule) entries paired (before_rule.Read ended) → IsAnswerToRecords (AreVerdictsOfDay q) entries paired (answer.Judged judged)
    of-records entries (Ok trades) has = is entries trades has
    of-records entries (Err finding) has = has
