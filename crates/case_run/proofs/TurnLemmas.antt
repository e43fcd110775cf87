-- One command: from the answer to what is written of it.
use Rattle.std.proofs.Common.{subst, refl, inl, inr, ⊎_elim, ℕ, List, Ok, Err}
use Rattle.std.proofs.KnownBytes.{Appends-nil}
use Rattle.log_verdict.specs.Steps.{Reading}
use Rattle.log_source.specs.Sinks.{SinkState}
use Rattle.case_run.specs.Causes.{halt_line, halt_status}
use Rattle.case_run.specs.Play.{IsTurn}
use Rattle.case_run.specs.Runs.{EndsWithinOrTooLong}
use Rattle.case_run.specs.Traces.{KnownLogs, RunState, RunTurn, reading_between}
use Rattle.case_run.specs.Turns.{EndsWithinOrHalts, IsAnswerToCommand, IsHaltOf, TakesTurn}
use Rattle.case_run.specs.Writing.{WritesHaltLine, WritesOrFails}
use Rattle.case_run.specs.declared.answers.CaseAnswer.{CaseAnswer}
use Rattle.case_run.specs.declared.commands.CaseCommand.{CaseCommand}
use Rattle.case_run.specs.declared.halts.Halt.{Halt}
use Rattle.case_run.specs.declared.halts.Halt.TheVariants as halt
use Rattle.case_run.specs.declared.statuses.CaseStatus.{CaseStatus}

module _ (known : KnownLogs) (from to : RunState) (c : CaseCommand) where
  -- the turn of an answer
  abbrev answered_turn : CaseAnswer → RunTurn
  answered_turn answer = record { command = c; status = answer.status; text = answer.text.items; left = to }

  -- an answer that was written, whole or in part
  pub turn_of_answer : (answer : CaseAnswer) (result : CaseStatus) → IsAnswerToCommand (reading_between known from to) from.keeper to.keeper c answer → WritesOrFails from.sink to.sink answer.status answer.text.items result
      → TakesTurn known from to c result
  turn_of_answer answer result is writes = record {
    turn = answered_turn answer;
    command_is = refl;
    left_is = refl;
    answer_or_halt = inl (record {
      read = is.read;
      played = λ cases knows.
          let found = is.known cases knows.logs knows.cases_are in
          record {
            filed = found.turn.cases;
            is =
                subst (λ (t : List ℕ). IsTurn known.log_of cases c (record { cases = found.turn.cases; text = t; status = answer.status })) found.has.text_is
                (subst (λ (s : CaseStatus). IsTurn known.log_of cases c (record { cases = found.turn.cases; text = found.turn.text; status = s })) found.has.status_is found.is);
            cases_are = found.has.cases_are;
          };
    });
    writes = writes;
  }

  -- the turn of a halt
  abbrev halted_turn : Halt → RunTurn
  halted_turn why = record { command = c; status = halt_status why; text = halt_line why; left = to }

  halts : (why : Halt) (result : CaseStatus) → IsHaltOf (reading_between known from to) from.keeper to.keeper c why → WritesOrFails from.sink to.sink (halt_status why) (halt_line why) result → TakesTurn known from to c result
  halts why result is writes = record {
    turn = halted_turn why;
    command_is = refl;
    left_is = refl;
    answer_or_halt = inr (why, record { cause = is.cause; status_is = refl; text_is = refl; cases_stay = is.stays });
    writes = writes;
  }

  -- a halt whose line was written, whole or in part
  pub turn_of_halt : (why : Halt) (result : CaseStatus) → IsHaltOf (reading_between known from to) from.keeper to.keeper c why → WritesHaltLine from.sink to.sink why result → TakesTurn known from to c result
  turn_of_halt (halt.ReadFault log) result is writes = halts (halt.ReadFault log) result is writes
  turn_of_halt (halt.TooLong log) result is writes = halts (halt.TooLong log) result is writes
  turn_of_halt halt.KeeperFault result is writes = halts halt.KeeperFault result is writes
  turn_of_halt halt.Memory result is nothing =
      halts halt.Memory result is (inl (record { answer_is = nothing.answer_is; wrote = rw nothing.same (Appends-nil from.sink.wrote) }))

-- an answer leaves both slots within the longest log
pub length_of_answer : (r : Reading) (answer : CaseAnswer) (result : CaseStatus) → EndsWithinOrHalts r (Ok answer) → EndsWithinOrTooLong r result
length_of_answer r answer result stays begins = ⊎_elim (λ e. absurd e) (λ ends. inl ends) (stays begins)

-- a halt that leaves a slot outside the longest log is answered as one
pub length_of_halt : (r : Reading) (sink_old sink_new : SinkState) (why : Halt) (result : CaseStatus) → EndsWithinOrHalts {T = CaseAnswer} r (Err why) → WritesHaltLine sink_old sink_new why result → EndsWithinOrTooLong r result
length_of_halt r sink_old sink_new (halt.ReadFault log) result stays writes begins = ⊎_elim (λ e. absurd e) (λ ends. inl ends) (stays begins)
length_of_halt r sink_old sink_new (halt.TooLong log) result stays (inl all) begins = inr (inl all.answer_is)
length_of_halt r sink_old sink_new (halt.TooLong log) result stays (inr front) begins = inr (inr front.answer_is)
length_of_halt r sink_old sink_new halt.KeeperFault result stays writes begins = ⊎_elim (λ e. absurd e) (λ ends. inl ends) (stays begins)
length_of_halt r sink_old sink_new halt.Memory result stays writes begins = ⊎_elim (λ e. absurd e) (λ ends. inl ends) (stays begins)
