-- A command that reads one log, or none: from what is decided of that to the whole call.
use Rattle.std.proofs.Common.{◌≡◌, refl, ℕ, List, [], ◌∷◌, None, Some, Result, Ok, Err}
use Rattle.std.specs.Prelude.{MatchResult}
use Rattle.audit_base.specs.declared.terms.Which.{Which}
use Rattle.audit_base.specs.declared.terms.Which.TheVariants.{Orders, Trades}
use Rattle.audit_report.specs.declared.statuses.Status.{Status}
use Rattle.audit_report.specs.declared.statuses.Status.TheVariants as status
use Rattle.log_source.specs.Sources.{other_log}
use Rattle.log_verdict.specs.declared.stops.Stop.{Stop}
use Rattle.log_verdict.specs.declared.stops.Stop.TheVariants as stop
use Rattle.log_verdict.specs.Collecting.{TouchesOnly}
use Rattle.log_verdict.specs.Steps.{Reading, LogStep, StepsLead, with_slot, step_of}
use Rattle.command_run.specs.declared.answers.Answer.{Answer}
use Rattle.command_run.specs.Commands.{Command, StartsOne}
use Rattle.command_run.specs.Deciding.{DecidesAnswer, DecidesBytes, IsStatusOfLogs}
use Rattle.command_run.specs.Laws.{IsAnswerToNone}
use Rattle.command_run.specs.Runs.{IsAnswerToReadLogs, ReadingDecides, ReadsThenStarts}
use Rattle.command_run.proofs.EarlyLemmas.{line-alone}

module _ (r : Reading) (command : Command) where
  pub text-of : (s : Status) (text : List ℕ) → IsStatusOfLogs s → IsAnswerToReadLogs r command s text → ReadingDecides r command s text
  text-of status.Accepted text answers is = is
  text-of status.Rejected text answers is = is
  text-of status.Malformed text answers is = is
  text-of status.Usage text answers is = absurd answers
  text-of status.ReadFault text answers is = absurd answers
  text-of status.WriteFault text answers is = absurd answers
  text-of status.TooLong text answers is = absurd answers
  text-of status.Memory text answers is = absurd answers

  module _ (log : Which) (name : List ℕ) (only : TouchesOnly r log) where
    abbrev one_step : LogStep
    one_step = step_of r log name

    one-leads : StepsLead r.before (one_step ∷ []) r.after
    one-leads = (record { at = refl; later = only.later }, ends log only.other)
      where
        ends : (log : Which) → r.after (other_log log) ≡ r.before (other_log log) → (which : Which) → r.after which ≡ with_slot r.before log (r.after log) which
        ends Orders same Orders = refl
        ends Orders same Trades = same
        ends Trades same Orders = same
        ends Trades same Trades = refl

    pub one-reaches : command.next [] ≡ Some (log, name) → ReadsThenStarts r command one_step
    one-reaches first = record {
      steps = [];
      logs = [];
      lead = one-leads;
      read = refl;
      next = first;
    }

    -- what is decided of one log is decided of the whole call
    pub decides-one : (result : Result Answer Stop) → StartsOne command log name → ((bytes : List ℕ) (s : Status) (text : List ℕ) → command.is_answer (bytes ∷ []) s text → IsStatusOfLogs s)
        → DecidesBytes r log name (λ bytes. command.is_answer (bytes ∷ [])) result → DecidesAnswer r command result
    decides-one (Ok answer) starts answers is =
        text-of answer.status answer.text.items (answers is.bytes answer.status answer.text.items is.holds)
        (record {
          steps = one_step ∷ [];
          logs = is.bytes ∷ [];
          lead = one-leads;
          read = (is.bytes, record { next = starts.first; read = is.read }, refl);
          all = starts.last is.bytes;
          answer = is.holds;
        })
    decides-one (Err (stop.ReadFault which)) starts answers is = rw is.0 (record { last = one_step; reads = one-reaches starts.first; cause = is.1; text_is = line-alone r command command.writes_early _ one_step _ })
    decides-one (Err (stop.TooLong which)) starts answers is = rw is.0 (record { last = one_step; reads = one-reaches starts.first; cause = is.1; text_is = line-alone r command command.writes_early _ one_step _ })
    decides-one (Err stop.Memory) starts answers is = tt

  -- a command that needs no log answers without one
  pub decides-none : (result : Result Answer Stop) → ((log : Which) → r.after log ≡ r.before log) → command.next [] ≡ None
      → MatchResult result (IsAnswerToNone command) (λ why. why ≡ stop.Memory) → DecidesAnswer r command result
  decides-none (Ok answer) same none is =
      text-of answer.status answer.text.items is.status_of_logs (record { steps = []; logs = []; lead = same; read = refl; all = none; answer = is.is })
  decides-none (Err why) same none is = rw is tt
