-- From the run of commands, or of words that are none, to the whole call.
use Rattle.std.proofs.Common.{◌≡◌, sym, subst, refl, inl, inr, ◌⊎◌, ℕ, ◌+◌, List, [], ◌∷◌, length, map, Option, None, Some, arith}
use Rattle.std.proofs.KnownBytes.{Appends-nil}
use Rattle.std.proofs.lemmas.List.Splits.{length-slice_split}
use Rattle.std.specs.List.{count_by, slice_split}
use Rattle.log_verdict.specs.Steps.{reading}
use Rattle.case_keeper.specs.Keepers.{KeeperState}
use Rattle.log_source.specs.declared.shelf.Shelf.{Ghosts as Shelf}
use Rattle.log_source.specs.Sinks.{SinkState, SinkStays}
use Rattle.log_source.specs.Sources.{RoseOrIsFull}
use Rattle.case_run.specs.Commands.{all_or_none, command_of, commands_of, is_then, with_next}
use Rattle.case_run.specs.Lines.{casebook_usage_line}
use Rattle.case_run.specs.Runs.{AnswersWhereReady, EndsWithinOrTooLong, IsCaseRun, RunsAsked, RunsCommands, known_logs, run_state}
use Rattle.case_run.specs.Traces.{Halted, KnownLogs, RunState}
use Rattle.case_run.specs.Turns.{KeepsAll}
use Rattle.case_run.specs.Writing.{WritesOrFails}
use Rattle.case_run.specs.declared.commands.CaseCommand.{CaseCommand}
use Rattle.case_run.specs.declared.halts.Halt.TheVariants as halt
use Rattle.case_run.specs.declared.statuses.CaseStatus.{CaseStatus}
use Rattle.case_run.specs.declared.statuses.CaseStatus.TheVariants as status
use Rattle.case_run.proofs.ReadyLemmas.{ready_answers}
use Rattle.case_run.proofs.RunLemmas.{runs_ended}

-- words are at least one part, so they never ask for no command
pub some_command : (words : List (List ℕ)) → commands_of words ≡ Some [] → ⊥
some_command words is = by_parts (slice_split is_then words) (length-slice_split is_then words) is
  where
    no_length : (n : ℕ) → 0 ≡ n + 1 → ⊥
    no_length n e = omega arith

    by_next : (c : Option CaseCommand) (rest : Option (List CaseCommand)) → with_next c rest ≡ Some [] → ⊥
    by_next None rest e = cc
    by_next (Some c) None e = cc
    by_next (Some c) (Some more) e = cc

    by_parts : (parts : List (List (List ℕ))) → length parts ≡ count_by is_then words + 1 → all_or_none (map command_of parts) ≡ Some [] → ⊥
    by_parts [] long e = no_length (count_by is_then words) long
    by_parts (part ∷ parts) long e = by_next (command_of part) (all_or_none (map command_of parts)) e

module _ {S : Type 0} (shelf : Shelf S) (asked : Option (List CaseCommand)) where
  -- well-formed words
  pub case_run : (commands : List CaseCommand) (old new : S) (sink_old sink_new : SinkState) (keeper_old keeper_new : KeeperState) (answer : CaseStatus) → asked ≡ Some commands
      → KeepsAll shelf old new sink_old sink_new keeper_old keeper_new → RunsCommands (known_logs shelf old) (run_state shelf old sink_old keeper_old) (run_state shelf new sink_new keeper_new) commands answer
      → EndsWithinOrTooLong (reading shelf old new) answer → IsCaseRun shelf asked old new sink_old sink_new keeper_old keeper_new answer
  case_run commands old new sink_old sink_new keeper_old keeper_new answer is keeps runs long =
      let known : KnownLogs = known_logs shelf old in
      let from : RunState = run_state shelf old sink_old keeper_old in
      let to : RunState = run_state shelf new sink_new keeper_new in
      record {
        run = record {
          headline = subst (λ (o : Option (List CaseCommand)). AnswersWhereReady known from to o answer) (sym is) (λ cases ready. ready_answers known from to refl commands cases answer ready runs);
          runs = subst (λ (o : Option (List CaseCommand)). RunsAsked known from to o answer) (sym is) runs;
          length = long;
          later = record { slots = keeps.later; sink = keeps.sink.later; keeper = keeps.keeper };
          sink = keeps.sink;
        };
        logs = keeps.logs;
      }

  -- words that are not well-formed
  pub case_usage : (old : S) (sink_old sink_new : SinkState) (keeper : KeeperState) (answer : CaseStatus) → asked ≡ None → SinkStays sink_old sink_new → WritesOrFails sink_old sink_new status.Usage casebook_usage_line answer
      → IsCaseRun shelf asked old old sink_old sink_new keeper keeper answer
  case_usage old sink_old sink_new keeper answer is stays writes =
      let known : KnownLogs = known_logs shelf old in
      let from : RunState = run_state shelf old sink_old keeper in
      let to : RunState = run_state shelf old sink_new keeper in
      record {
        run = record {
          headline = subst (λ (o : Option (List CaseCommand)). AnswersWhereReady known from to o answer) (sym is) (λ quiet. told quiet writes);
          runs = subst (λ (o : Option (List CaseCommand)). RunsAsked known from to o answer) (sym is) (record { writes = inl writes; slots = λ log. refl; keeper = refl });
          length = λ begins. inl begins;
          later = record { slots = λ log. omega arith; sink = stays.later; keeper = omega arith };
          sink = stays;
        };
        logs = record { tells = refl; logs = λ log name. refl };
      }
    where
      told : (RoseOrIsFull sink_old.faults sink_new.faults → ⊥) → WritesOrFails sink_old sink_new status.Usage casebook_usage_line answer → (answer ≡ status.Usage) ⊎ (answer ≡ status.Memory)
      told quiet (inl all) = inl all.answer_is
      told quiet (inr front) = absurd (quiet front.cause.rose)

  -- memory ran out before the words were read
  pub case_memory : (old : S) (sink : SinkState) (keeper : KeeperState) → (asked ≡ Some [] → ⊥) → IsCaseRun shelf asked old old sink sink keeper keeper status.Memory
  case_memory old sink keeper some =
      record {
        run = record {
          headline = told asked;
          runs = runs asked some;
          length = λ begins. inl begins;
          later = record { slots = λ log. omega arith; sink = omega arith; keeper = omega arith };
          sink = record { tells = refl; sure = refl; later = omega arith };
        };
        logs = record { tells = refl; logs = λ log name. refl };
      }
    where
      known : KnownLogs
      known = known_logs shelf old

      state : RunState
      state = run_state shelf old sink keeper

      told : (o : Option (List CaseCommand)) → AnswersWhereReady known state state o status.Memory
      told None = λ quiet. inr refl
      told (Some commands) = λ cases ready. inr refl

      runs : (o : Option (List CaseCommand)) → (o ≡ Some [] → ⊥) → RunsAsked known state state o status.Memory
      runs None some = record { writes = inr (record { answer_is = refl; same = refl }); slots = λ log. refl; keeper = refl }
      runs (Some []) some = absurd (some refl)
      runs (Some (c ∷ commands)) some =
          runs_ended known state [] tt (record { command = c; status = status.Memory; text = []; left = state }) commands (Halted halt.Memory)
          (record { halted = record { cause = tt; status_is = refl; text_is = refl; cases_stay = refl }; written = Appends-nil sink.wrote })
