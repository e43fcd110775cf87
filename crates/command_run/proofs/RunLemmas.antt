-- What is written of an answer or of a stop is what the call answers.
use Rattle.std.proofs.Common.{◌≡◌, ◌⊎◌, inl, inr, refl, ⊎_elim, List, ℕ, Option, None, Some, Ok, Err}
use Rattle.audit_report.specs.declared.statuses.Status.{Status}
use Rattle.audit_report.specs.declared.statuses.Status.TheVariants as status
use Rattle.audit_report.specs.Lines.{read_fault_line, too_long_line}
use Rattle.log_source.specs.Sinks.{SinkState}
use Rattle.command_run.specs.declared.answers.Answer.{Answer}
use Rattle.log_verdict.specs.declared.stops.Stop.{Stop}
use Rattle.log_verdict.specs.declared.stops.Stop.TheVariants as stop
use Rattle.log_verdict.specs.BothLogs.{StaysWithin}
use Rattle.command_run.specs.Deciding.{ReadingStops}
use Rattle.command_run.specs.Commands.{Command}
use Rattle.command_run.specs.Runs.{AnswersCommand, AnswersTooLong, ReadingDecides}
use Rattle.command_run.specs.Writing.{AnswersStop, AnswersText}
use Rattle.log_verdict.specs.Steps.{Reading}
use Rattle.command_run.proofs.EarlyLemmas.{begun-decided, nothing-before}

module _ (r : Reading) (command : Command) (old new : SinkState) where
  -- a text that was written, whole or in part, is what the call answers and writes
  pub answers_text : (the_status : Status) (text : List ℕ) (result : Status) → ReadingDecides r command the_status text → AnswersText old new the_status text result → AnswersCommand r command old new result
  answers_text the_status text result is (inr part) = rw part.status_is (record { text = text; is = begun-decided r command command.writes_early text (record { status = the_status; decides = is }); wrote = part.wrote; cause = part.cause })
  answers_text status.Accepted text result is (inl all) = rw all.status_is (record { text = text; is = is; wrote = all.wrote })
  answers_text status.Rejected text result is (inl all) = rw all.status_is (record { text = text; is = is; wrote = all.wrote })
  answers_text status.Malformed text result is (inl all) = rw all.status_is (record { text = text; is = is; wrote = all.wrote })
  answers_text status.ReadFault text result is (inl all) = rw all.status_is (record { text = text; is = is; wrote = all.wrote })
  answers_text status.TooLong text result is (inl all) = rw all.status_is (record { text = text; is = is; wrote = all.wrote })
  answers_text status.Usage text result is (inl all) = absurd is
  answers_text status.WriteFault text result is (inl all) = absurd is
  answers_text status.Memory text result is (inl all) = absurd is

  pub answers_stop : (the_stop : Stop) (result : Status) → ReadingStops r command the_stop → AnswersStop old new the_stop result → AnswersCommand r command old new result
  answers_stop (stop.ReadFault log) result is writes = answers_text status.ReadFault (read_fault_line log) result is writes
  answers_stop (stop.TooLong log) result is writes = answers_text status.TooLong (too_long_line log) result is writes
  answers_stop stop.Memory result is writes = rw writes.status_is (nothing-before r command command.writes_early old new writes.nothing)

-- an answer leaves both slots within the longest log
pub length_of_answer : (r : Reading) (answer : Answer) (result : Status) → StaysWithin r (Ok answer) → AnswersTooLong r result
length_of_answer r answer result stays begins = ⊎_elim (λ e. absurd e) (λ ends. inl ends) (stays begins)

written_length : (old new : SinkState) (text : List ℕ) (result : Status) → AnswersText old new status.TooLong text result → (result ≡ status.TooLong) ⊎ (result ≡ status.WriteFault)
written_length old new text result (inl all) = inl all.status_is
written_length old new text result (inr part) = inr part.status_is

-- a stop that leaves a slot outside the longest log is answered as one
pub length_of_stop : (r : Reading) (old new : SinkState) (the_stop : Stop) (result : Status) → StaysWithin {T = Answer} r (Err the_stop) → AnswersStop old new the_stop result → AnswersTooLong r result
length_of_stop r old new (stop.ReadFault log) result stays writes begins = ⊎_elim (λ e. absurd e) (λ ends. inl ends) (stays begins)
length_of_stop r old new (stop.TooLong log) result stays writes begins = inr (written_length old new (too_long_line log) result writes)
length_of_stop r old new stop.Memory result stays writes begins = ⊎_elim (λ e. absurd e) (λ ends. inl ends) (stays begins)
