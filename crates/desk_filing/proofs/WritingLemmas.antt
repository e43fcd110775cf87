-- From what is decided to what is written of it.
use Rattle.std.proofs.Common.{◌≡◌, inl, inr, ◌⊎◌, ⊎_elim, Result, Ok, Err}
use Rattle.std.proofs.KnownBytes.{Appends-nil}
use Rattle.case_run.specs.Causes.{halt_line, halt_status}
use Rattle.case_run.specs.Turns.{EndsWithinOrHalts, IsLengthHalt, halt_of_stop}
use Rattle.case_run.specs.Writing.{WritesHaltLine, WritesOrFails}
use Rattle.case_run.specs.declared.halts.Halt.{Halt}
use Rattle.case_run.specs.declared.halts.Halt.TheVariants as halt
use Rattle.case_run.specs.declared.statuses.CaseStatus.{CaseStatus}
use Rattle.case_run.specs.declared.statuses.CaseStatus.TheVariants as status
use Rattle.desk_filing.specs.Runs.{EndsWithinOrAnswers, FilingCall, HaltsRequest, RunsRequest}
use Rattle.case_run.specs.declared.answers.CaseAnswer.{CaseAnswer}
use Rattle.desk_filing.specs.declared.requests.FilingRequest.{FilingRequest}
use Rattle.log_source.specs.Sinks.{SinkState}
use Rattle.log_verdict.specs.BothLogs.{IsLengthStop}
use Rattle.log_source.specs.declared.shelf.Shelf.{Ghosts as Shelf}
use Rattle.log_verdict.specs.Steps.{KeepsShelfLogs, Reading, reading_by}
use Rattle.log_verdict.specs.declared.sources.Source.{Source}
use Rattle.log_verdict.specs.declared.stops.Stop.{Stop}
use Rattle.log_verdict.specs.declared.stops.Stop.TheVariants as stop

module _ (call : FilingCall) (request : FilingRequest) (old new : SinkState) where
  halts : (why : Halt) (result : CaseStatus) → HaltsRequest call request (halt_status why) (halt_line why) → WritesOrFails old new (halt_status why) (halt_line why) result → RunsRequest call request old new result
  halts why result is writes = record { decided = halt_status why; text = halt_line why; answers = inr is; writes = writes }

  -- a halt whose line was written, whole or in part
  pub runs_halted : (why : Halt) (result : CaseStatus) → HaltsRequest call request (halt_status why) (halt_line why) → WritesHaltLine old new why result → RunsRequest call request old new result
  runs_halted (halt.ReadFault log) result is writes = halts (halt.ReadFault log) result is writes
  runs_halted (halt.TooLong log) result is writes = halts (halt.TooLong log) result is writes
  runs_halted halt.KeeperFault result is writes = halts halt.KeeperFault result is writes
  runs_halted halt.Memory result is nothing = halts halt.Memory result is (inl (record { answer_is = nothing.answer_is; wrote = rw nothing.same (Appends-nil old.wrote) }))

-- an answer leaves both slots within the longest log
pub length_of_answer : (r : Reading) (answer : CaseAnswer) (result : CaseStatus) → EndsWithinOrHalts r (Ok answer) → EndsWithinOrAnswers r result
length_of_answer r answer result stays begins = ⊎_elim (λ e. absurd e) (λ ends. inl ends) (stays begins)

-- a halt that leaves a slot outside the longest log is answered as one
pub length_of_halt : (r : Reading) (old new : SinkState) (why : Halt) (result : CaseStatus) → EndsWithinOrHalts {T = CaseAnswer} r (Err why) → WritesHaltLine old new why result → EndsWithinOrAnswers r result
length_of_halt r old new (halt.ReadFault log) result stays writes begins = ⊎_elim (λ e. absurd e) (λ ends. inl ends) (stays begins)
length_of_halt r old new (halt.TooLong log) result stays (inl all) begins = inr (inl all.answer_is)
length_of_halt r old new (halt.TooLong log) result stays (inr front) begins = inr (inr front.answer_is)
length_of_halt r old new halt.KeeperFault result stays writes begins = ⊎_elim (λ e. absurd e) (λ ends. inl ends) (stays begins)
length_of_halt r old new halt.Memory result stays writes begins = ⊎_elim (λ e. absurd e) (λ ends. inl ends) (stays begins)

-- the slots end as they did, whatever why there was nothing
pub ends_stopped : {B E : Type 0} (S T : Type 0) (why : Stop) → (B → IsLengthStop {T = S} (Err why) ⊎ E) → B → IsLengthHalt {T = T} (Err (halt_of_stop why)) ⊎ E
ends_stopped S T (stop.ReadFault log) stays begins = ⊎_elim (λ e. absurd e) (λ ends. inr ends) (stays begins)
ends_stopped S T (stop.TooLong log) stays begins = inl tt
ends_stopped S T stop.Memory stays begins = ⊎_elim (λ e. absurd e) (λ ends. inr ends) (stays begins)

pub ends_halted : {B E : Type 0} (S T : Type 0) (why : Halt) → (B → IsLengthHalt {T = S} (Err why) ⊎ E) → B → IsLengthHalt {T = T} (Err why) ⊎ E
ends_halted S T (halt.ReadFault log) stays begins = stays begins
ends_halted S T (halt.TooLong log) stays begins = stays begins
ends_halted S T halt.Memory stays begins = stays begins
ends_halted S T halt.KeeperFault stays begins = stays begins

-- where no log was too long, whatever is answered
pub ends_any : {B E : Type 0} (result : CaseStatus) → (B → ⊥ ⊎ E) → B → E ⊎ ((result ≡ status.TooLong) ⊎ (result ≡ status.WriteFault))
ends_any result stays begins = ⊎_elim (λ e. absurd e) (λ ends. inl ends) (stays begins)

-- what is so of any reading is so of what a shelf was read
pub ends_at : {S : Type 0} (source : Source) (shelf : Shelf S) (old new : S) → KeepsShelfLogs shelf old new → (decided : Result CaseAnswer Halt) (result : CaseStatus) → ((r : Reading) → EndsWithinOrHalts r decided → EndsWithinOrAnswers r result)
    → EndsWithinOrHalts (reading_by source shelf old new) decided → EndsWithinOrAnswers (reading_by source shelf old new) result
ends_at source shelf old new keeps decided result each within = each (reading_by source shelf old new) within
