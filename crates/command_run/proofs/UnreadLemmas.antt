-- What is decided where two logs were not read into records.
use Rattle.std.proofs.Common.{◌≡◌, refl, sym, subst, List, Result, Ok, Err}
use Rattle.std.specs.Prelude.{MatchResult}
use Rattle.audit_base.specs.declared.faults.BadPlace.{BadPlace}
use Rattle.audit_base.specs.declared.findings.Finding.{Finding}
use Rattle.audit_base.specs.declared.records.OrderRecord.{OrderRecord}
use Rattle.audit_base.specs.declared.records.TradeRecord.{TradeRecord}
use Rattle.audit_base.specs.declared.terms.Which.{Which}
use Rattle.audit_base.specs.declared.terms.Which.TheVariants.{Trades}
use Rattle.audit_report.specs.declared.verdicts.Verdict.TheVariants.{Malformed}
use Rattle.log_verdict.specs.declared.sources.Source.{Source}
use Rattle.log_verdict.specs.declared.stops.NoRecords.{NoRecords}
use Rattle.log_verdict.specs.declared.stops.NoRecords.TheVariants as norecords
use Rattle.log_verdict.specs.declared.stops.Stop.{Stop}
use Rattle.log_verdict.specs.BothLogs.{IsStopOfTwoLogs, IsUnreadOfTwoLogs, ReadsLogs, ReadsWithin, StaysWithin}
use Rattle.log_verdict.specs.LogVerdicts.{trades_of_trade_log}
use Rattle.log_verdict.specs.Steps.{Reading, FaultsNeverFall}
use Rattle.command_run.specs.declared.answers.Answer.{Answer}
use Rattle.command_run.specs.Commands.{Command}
use Rattle.command_run.specs.Deciding.{DecidesAnswer, DecidesWithout, IsAnswerOfKind, IsStatusOfLogs, ReadingStops}
use Rattle.command_run.specs.Laws.{AnswersBadPlace, AnswersBoth}
use Rattle.command_run.specs.VerdictAnswers.{IsVerdictAnswer}
use Rattle.log_verdict.proofs.JoinLemmas.{reads-bad}
use Rattle.command_run.proofs.BothLogsLemmas.{both_stop, both_text}

bad_of : (said : Result (Result (List TradeRecord) Finding) BadPlace) (log : Which) (bad : BadPlace) → MatchResult said (λ paired. ⊥) (λ place. (Trades ≡ log) × (place ≡ bad)) → said ≡ Err bad
bad_of (Ok paired) log bad is = absurd is
bad_of (Err place) log bad is = rw is.1 refl

-- what a command answers to a first bad place, as to any two logs
answers_bad : (command : Command) (orders trades : Source) → AnswersBadPlace command orders trades → (log : Which) (bad : BadPlace) (answer : Answer) → IsAnswerOfKind (IsVerdictAnswer (Malformed log bad)) answer
    → AnswersBoth command orders trades (λ entries paired. ⊥) (λ which place. (which ≡ log) × (place ≡ bad)) answer.status answer.text.items
answers_bad command orders trades answers log bad answer made = record {
  starts = answers.starts;
  answer = λ logs short come. answers.answer log bad answer.status answer.text.items made logs short come;
  ends = λ first second entries e come. answers.ends bad first second entries e (bad_of (trades_of_trade_log trades.form second) log bad come);
  status_of_logs = λ logs is. subst IsStatusOfLogs (sym made.status_is) tt;
}

-- why both logs were not read into records decides the command
pub both_unread : (r : Reading) (orders trades : Source) (command : Command) (why : NoRecords) (result : Result Answer Stop) → FaultsNeverFall r → AnswersBadPlace command orders trades
    → IsUnreadOfTwoLogs r orders trades why → DecidesWithout why result → DecidesAnswer r command result
both_unread r orders trades command (norecords.Malformed log bad) (Ok answer) later answers is decides =
    both_text r later orders trades command answers.starts _ _ answer.status answer.text.items (answers_bad command orders trades answers log bad answer decides) is
both_unread r orders trades command (norecords.Malformed log bad) (Err why) later answers is decides =
    subst (ReadingStops r command) (sym decides) tt
both_unread r orders trades command (norecords.Stopped why) result later answers is decides =
    rw decides (both_stop r later orders trades command answers.starts why is)

-- what is given where both logs were not read into records
pub gives_unread : (r : Reading) (orders trades : Source) (P : List OrderRecord → Result (List TradeRecord) Finding → Answer → Type 0) (why : NoRecords) (result : Result Answer Stop)
    → IsUnreadOfTwoLogs r orders trades why → DecidesWithout why result
    → MatchResult result (λ answer. ReadsLogs r orders trades (λ entries paired. P entries paired answer) (λ log bad. IsAnswerOfKind (IsVerdictAnswer (Malformed log bad)) answer)) (IsStopOfTwoLogs r orders trades)
gives_unread r orders trades P (norecords.Malformed log bad) (Ok answer) is decides =
    reads-bad r orders trades (λ entries paired. P entries paired answer) (λ which place. IsAnswerOfKind (IsVerdictAnswer (Malformed which place)) answer) log bad decides is
gives_unread r orders trades P (norecords.Malformed log bad) (Err why) is decides = rw decides tt
gives_unread r orders trades P (norecords.Stopped why) result is decides = rw decides is

-- and the slots stay within the limit as they did
pub stays_unread : {T : Type 0} (r : Reading) (why : NoRecords) (read : Result T NoRecords) (result : Result Answer Stop) → read ≡ Err why → ReadsWithin r read → DecidesWithout why result → StaysWithin r result
stays_unread r (norecords.Malformed log bad) read (Ok answer) is within decides = rw is at within
stays_unread r (norecords.Malformed log bad) read (Err why) is within decides = rw decides (rw is at within)
stays_unread r (norecords.Stopped why) read result is within decides = rw decides (rw is at within)
