-- The run over the commands so far, and one command more.
use Rattle.std.proofs.Common.{◌≡◌, ◌∙◌, sym, ap, subst, refl, inl, inr, ◌⊎◌, ⊎_elim, ℕ, ◌<◌, ◌+◌, Bool, true, false, List, [], ◌∷◌, ◌++◌, length, take, drop, Option, Some, append-nil, length-append, take-append-drop, get_or, suc, arith}
use Rattle.std.proofs.KnownBytes.{Appends-nil, Appends-trans}
use Rattle.std.proofs.Math.Path.{fun_ext}
use Rattle.std.proofs.Math.Seq.{drop-cons}
use Rattle.std.proofs.lemmas.List.{take_more}
use Rattle.std.specs.Io.KnownBytes.{Appends}
use Rattle.audit_base.specs.declared.terms.Which.{Which}
use Rattle.log_verdict.specs.Steps.{Reading, BeginsWithin, EndsWithin, reading}
use Rattle.case_keeper.specs.Keepers.{KeeperState}
use Rattle.case_keeper.specs.declared.case.Case.{Case}
use Rattle.case_keeper.specs.declared.casebook.Filed.{Filed}
use Rattle.case_keeper.specs.declared.casebook.Filed.TheVariants.{Kept, Known}
use Rattle.audit_report.specs.declared.verdicts.Verdict.{Verdict}
use Rattle.audit_report.specs.declared.verdicts.Verdict.TheVariants as verdict
use Rattle.log_source.specs.declared.shelf.Shelf.{Ghosts as Shelf}
use Rattle.log_source.specs.Sinks.{AppendsPart, SinkState}
use Rattle.case_run.specs.Causes.{ReadsLogsFor, halt_status}
use Rattle.case_run.specs.Play.{IsTurn, PlayTurn, cases_after, filed_status, play_result, verdict_turn}
use Rattle.case_run.specs.Runs.{AnswersPlay, EndsWithinOrTooLong, FilesTrace, IsPlayStatus, RunsCommands, known_logs, run_state}
use Rattle.case_run.specs.Statuses.{ends_run}
use Rattle.case_run.specs.Traces.{AllDone, AreDone, BadLog, EndCause, EndedBy, Ending, EndsMalformed, FilesCases, Halted, IsDoneFrom, IsLastTurn, IsLater, KnownLogs, KnowsLogsAndCases, RunState, RunTurn, WriteFailed, WritesTexts, end_status, state_after, status_after, turn_commands, turn_texts}
use Rattle.case_run.specs.Turns.{IsGoing, KeepsAll, TakesTurn}
use Rattle.case_run.specs.declared.commands.CaseCommand.{CaseCommand}
use Rattle.case_run.specs.declared.commands.CaseCommand.TheVariants as command
use Rattle.case_run.specs.declared.halts.Halt.{Halt}
use Rattle.case_run.specs.declared.halts.Halt.TheVariants as halt
use Rattle.case_run.specs.declared.statuses.CaseStatus.{CaseStatus}
use Rattle.case_run.specs.declared.statuses.CaseStatus.TheVariants as status
use Rattle.case_run.proofs.JoinLemmas.{keeps_both}
use Rattle.case_run.proofs.PlayLemmas.{PlaysTo, plays_on}

-- One turn more after the turns so far.

state_more : (from : RunState) (turns : List RunTurn) (turn : RunTurn) → state_after from (turns ++ turn ∷ []) ≡ turn.left
state_more from [] turn = refl
state_more from (first ∷ turns) turn = state_more first.left turns turn

status_more : (before : CaseStatus) (turns : List RunTurn) (turn : RunTurn) → status_after before (turns ++ turn ∷ []) ≡ turn.status
status_more before [] turn = refl
status_more before (first ∷ turns) turn = status_more first.status turns turn

commands_more : (turns : List RunTurn) (turn : RunTurn) → turn_commands (turns ++ turn ∷ []) ≡ turn_commands turns ++ turn.command ∷ []
commands_more [] turn = refl
commands_more (first ∷ turns) turn = ap (λ (cs : List CaseCommand). first.command ∷ cs) (commands_more turns turn)

done_more : (known : KnownLogs) (from : RunState) (turns : List RunTurn) (turn : RunTurn) → AreDone known from turns → IsDoneFrom known (state_after from turns) turn → AreDone known from (turns ++ turn ∷ [])
done_more known from [] turn done is = (is, tt)
done_more known from (first ∷ turns) turn done is = (done.0, done_more known first.left turns turn done.1 is)

-- What turns write and count.

texts_written : (known : KnownLogs) (from : RunState) (turns : List RunTurn) → AreDone known from turns → Appends from.sink.wrote (state_after from turns).sink.wrote (turn_texts turns)
texts_written known from [] done = Appends-nil from.sink.wrote
texts_written known from (turn ∷ turns) done =
    Appends-trans from.sink.wrote turn.left.sink.wrote (state_after turn.left turns).sink.wrote turn.text (turn_texts turns) done.0.written (texts_written known turn.left turns done.1)

pub later_turns : (known : KnownLogs) (from : RunState) (turns : List RunTurn) → AreDone known from turns → IsLater from (state_after from turns)
later_turns known from [] done = record { slots = λ log. omega arith; sink = omega arith; keeper = omega arith }
later_turns known from (turn ∷ turns) done =
    let more = later_turns known turn.left turns done.1 in
    record {
      slots = λ log. omega (arith, done.0.later.slots log, more.slots log);
      sink = omega (arith, done.0.later.sink, more.sink);
      keeper = omega (arith, done.0.later.keeper, more.keeper);
    }

-- a prefix of a text after others is a prefix of all of them
prefix_behind : (a b c : Option (List ℕ)) (texts text : List ℕ) → Appends a b texts → AppendsPart b c text → AppendsPart a c (texts ++ text)
prefix_behind a b c texts text first part = record {
  count = length texts + part.count;
  short = rw (length-append texts text) (let short = part.short in omega (arith, short));
  part = rw (take_behind texts text part.count) (Appends-trans a b c texts (take part.count text) first part.part);
}
  where
    take_behind : (xs ys : List ℕ) (n : ℕ) → take (length xs + n) (xs ++ ys) ≡ xs ++ take n ys
    take_behind [] ys n =
        let same : n ≡ 0 + n = omega arith in
        subst (λ (m : ℕ). take m ys ≡ take n ys) same refl
    take_behind (x ∷ xs) ys n =
        let more : suc (length xs + n) ≡ suc (length xs) + n = omega arith in
        subst (λ (m : ℕ). take m (x ∷ xs ++ ys) ≡ x ∷ xs ++ take n ys) more (ap (λ (zs : List ℕ). x ∷ zs) (take_behind xs ys n))

-- Play of a run over a shelf and a casebook of which it is known what they hold.

-- what Play leaves is what the run answers, writes and files
plays : (known : KnownLogs) (from to : RunState) (commands : List CaseCommand) (answer : CaseStatus) (cases : List Case) (text : List ℕ) → Appends from.sink.wrote to.sink.wrote text
    → PlaysTo known.log_of status.Done cases commands text answer to.keeper.cases → AnswersPlay known from to commands answer cases
plays known from to commands answer cases text wrote is = record {
  played = play_result cases is.turns;
  is = (is.turns, is.are, refl);
  status_is = is.status_is;
  wrote = subst (λ (t : List ℕ). Appends from.sink.wrote to.sink.wrote t) (sym is.text_is) wrote;
  cases_are = is.cases_are;
}

-- a stretch of Play after the turns, which leaves the cases as they are
nothing_more : (known : KnownLogs) (from : RunState) (turns : List RunTurn) (cases : List Case) → AreDone known from turns → KnowsLogsAndCases known from cases
    → PlaysTo known.log_of status.Done cases (turn_commands turns) (turn_texts turns) (status_after status.Done turns) (state_after from turns).keeper.cases
nothing_more known from turns cases done knows =
    subst (λ (cs : List CaseCommand). PlaysTo known.log_of status.Done cases cs (turn_texts turns) (status_after status.Done turns) (state_after from turns).keeper.cases) (append-nil (turn_commands turns))
    (subst (λ (t : List ℕ). PlaysTo known.log_of status.Done cases (turn_commands turns ++ []) t (status_after status.Done turns) (state_after from turns).keeper.cases) (append-nil (turn_texts turns))
    (plays_on known from turns status.Done cases done knows [] [] (status_after status.Done turns) (state_after from turns).keeper.cases
    (λ there knows_there. record { turns = []; are = refl; text_is = refl; status_is = refl; cases_are = knows_there.cases_are })))

-- what the turns left is Play's, and what the ending leaves on file is by it
files_trace : (known : KnownLogs) (from to : RunState) (turns : List RunTurn) (ending : Ending) (cases : List Case) → AreDone known from turns → KnowsLogsAndCases known from cases
    → ((there : List Case) → KnowsLogsAndCases known (state_after from turns) there → FilesCases known there to ending) → FilesTrace known from to (record { turns = turns; ending = ending }) cases
files_trace known from to turns ending cases done knows files =
    let is = nothing_more known from turns cases done knows in
    record {
      played = play_result cases is.turns;
      is = (is.turns, is.are, refl);
      status_is = is.status_is;
      text_is = is.text_is;
      cases_are = is.cases_are;
      filed = files (cases_after cases is.turns) (record { logs = knows.logs; cases_are = is.cases_are });
    }

turns_play : (known : KnownLogs) (from : RunState) (turns : List RunTurn) (cases : List Case) → AreDone known from turns → KnowsLogsAndCases known from cases
    → AnswersPlay known from (state_after from turns) (turn_commands turns) (status_after status.Done turns) cases
turns_play known from turns cases done knows =
    plays known from (state_after from turns) (turn_commands turns) (status_after status.Done turns) cases (turn_texts turns) (texts_written known from turns done) (nothing_more known from turns cases done knows)

-- a log that is not in its grammar ends Play, whatever commands come after
bad_plays : (known : KnownLogs) (from : RunState) (turns : List RunTurn) (turn : RunTurn) (rest : List CaseCommand) (cases : List Case) → AreDone known from turns → EndsMalformed known (state_after from turns) turn
    → KnowsLogsAndCases known from cases → AnswersPlay known from turn.left (turn_commands turns ++ turn.command ∷ rest) status.Malformed cases
bad_plays known from turns turn rest cases done ends knows =
    plays known from turn.left (turn_commands turns ++ turn.command ∷ rest) status.Malformed cases (turn_texts turns ++ turn.text)
    (Appends-trans from.sink.wrote (state_after from turns).sink.wrote turn.left.sink.wrote (turn_texts turns) turn.text (texts_written known from turns done) ends.written)
    (plays_on known from turns status.Done cases done knows (turn.command ∷ rest) turn.text status.Malformed turn.left.keeper.cases
    (λ there knows_there.
    let this = ends.answered.played there knows_there in
    record {
      turns = record { cases = this.filed; text = turn.text; status = turn.status } ∷ [];
      are = (this.is, inl (ends.status_is, refl));
      text_is = append-nil turn.text;
      status_is = ends.status_is;
      cases_are = this.cases_are;
    }))

-- a turn of a log that is not in its grammar leaves the cases as they are
malformed_stays : (logs : Which → List ℕ → Option (List ℕ)) (cases : List Case) (c : CaseCommand) (turn : PlayTurn) → IsTurn logs cases c turn → turn.status ≡ status.Malformed → turn.cases ≡ cases
malformed_stays logs cases (command.File wanted) turn is bad = ap (λ (t : PlayTurn). t.cases) is.2 ∙ by_verdict is.0 (sym (ap (λ (t : PlayTurn). t.status) is.2) ∙ bad)
  where
    by_filed : (filed : Filed) → filed_status filed ≡ status.Malformed → ⊥
    by_filed Kept e = cc
    by_filed (Known case) e = cc

    by_verdict : (v : Verdict) → (verdict_turn cases wanted v).status ≡ status.Malformed → (verdict_turn cases wanted v).cases ≡ cases
    by_verdict (verdict.Accepted accepted) e = absurd (by_filed _ e)
    by_verdict (verdict.Rejected finding) e = absurd (by_filed _ e)
    by_verdict (verdict.Malformed log place) e = refl
malformed_stays logs cases (command.List filter) turn is bad = ap (λ (t : PlayTurn). t.cases) is
malformed_stays logs cases (command.Show label) turn is bad = ap (λ (t : PlayTurn). t.cases) is

-- A run that is over.

-- all its commands were done
pub runs_done : (known : KnownLogs) (from : RunState) (turns : List RunTurn) → AreDone known from turns → RunsCommands known from (state_after from turns) (turn_commands turns) (status_after status.Done turns)
runs_done known from turns done = record {
  trace = record { turns = turns; ending = AllDone };
  is = record { undone = []; commands_are = sym (append-nil (turn_commands turns)); done = done; ends = refl };
  state_is = refl;
  status_is = refl;
  wrote = texts_written known from turns done;
  filed = λ cases knows. files_trace known from (state_after from turns) turns AllDone cases done knows (λ there knows_there. knows_there.cases_are);
  played = λ is cases knows. turns_play known from turns cases done knows;
}

-- one of them ended it
module _ (known : KnownLogs) (from : RunState) (turns : List RunTurn) (done : AreDone known from turns) (turn : RunTurn) (rest : List CaseCommand) where
  ending_wrote : (why : EndCause) → IsLastTurn known (state_after from turns) turn why → WritesTexts from.sink.wrote turn.left.sink.wrote (turn_texts turns) (EndedBy turn why)
  ending_wrote BadLog ends =
      Appends-trans from.sink.wrote (state_after from turns).sink.wrote turn.left.sink.wrote (turn_texts turns) turn.text (texts_written known from turns done) ends.written
  ending_wrote (Halted why) ends =
      Appends-trans from.sink.wrote (state_after from turns).sink.wrote turn.left.sink.wrote (turn_texts turns) turn.text (texts_written known from turns done) ends.written
  ending_wrote WriteFailed ends =
      prefix_behind from.sink.wrote (state_after from turns).sink.wrote turn.left.sink.wrote (turn_texts turns) turn.text (texts_written known from turns done) ends.cut.wrote

  ending_files : (why : EndCause) → IsLastTurn known (state_after from turns) turn why → (there : List Case) → KnowsLogsAndCases known (state_after from turns) there → FilesCases known there turn.left (EndedBy turn why)
  ending_files BadLog ends there knows =
      let this = ends.answered.played there knows in
      this.cases_are ∙ ap Some (malformed_stays known.log_of there turn.command (record { cases = this.filed; text = turn.text; status = turn.status }) this.is ends.status_is)
  ending_files (Halted why) ends there knows = ends.halted.cases_stay ∙ knows.cases_are
  ending_files WriteFailed ends there knows = ⊎_elim
      (λ answered. inr (answered.played there knows))
      (λ halted. inl (halted.1.cases_stay ∙ knows.cases_are))
      ends.answer

  no_play_status : (why : Halt) → IsPlayStatus (halt_status why) → ⊥
  no_play_status (halt.ReadFault log) is = ⊎_elim (λ e. cc) (λ o. ⊎_elim (λ e. cc) (λ e. cc) o) is
  no_play_status (halt.TooLong log) is = ⊎_elim (λ e. cc) (λ o. ⊎_elim (λ e. cc) (λ e. cc) o) is
  no_play_status halt.KeeperFault is = ⊎_elim (λ e. cc) (λ o. ⊎_elim (λ e. cc) (λ e. cc) o) is
  no_play_status halt.Memory is = ⊎_elim (λ e. cc) (λ o. ⊎_elim (λ e. cc) (λ e. cc) o) is

  ending_plays : (why : EndCause) → IsLastTurn known (state_after from turns) turn why → IsPlayStatus (end_status why) → (cases : List Case) → KnowsLogsAndCases known from cases
      → AnswersPlay known from turn.left (turn_commands turns ++ turn.command ∷ rest) (end_status why) cases
  ending_plays BadLog ends is cases knows = bad_plays known from turns turn rest cases done ends knows
  ending_plays (Halted why) ends is cases knows = absurd (no_play_status why is)
  ending_plays WriteFailed ends is cases knows = absurd (⊎_elim (λ e. cc) (λ o. ⊎_elim (λ e. cc) (λ e. cc) o) is)

  pub runs_ended : (why : EndCause) → IsLastTurn known (state_after from turns) turn why → RunsCommands known from turn.left (turn_commands turns ++ turn.command ∷ rest) (end_status why)
  runs_ended why ends = record {
    trace = record { turns = turns; ending = EndedBy turn why };
    is = record { undone = turn.command ∷ rest; commands_are = refl; done = done; ends = ((rest, refl), ends) };
    state_is = refl;
    status_is = refl;
    wrote = ending_wrote why ends;
    filed = λ cases knows. files_trace known from turn.left turns (EndedBy turn why) cases done knows (ending_files why ends);
    played = ending_plays why ends;
  }

-- From one command to its turn.

no_bool : false ≡ true → ⊥
no_bool e = cc

halt_ends : (why : Halt) → ends_run (halt_status why) ≡ true
halt_ends (halt.ReadFault log) = refl
halt_ends (halt.TooLong log) = refl
halt_ends halt.KeeperFault = refl
halt_ends halt.Memory = refl

-- an answer that ends the run is that a log is not in its grammar
malformed_of : (r : Reading) (c : CaseCommand) (s : CaseStatus) → ReadsLogsFor r c s → ends_run s ≡ true → s ≡ status.Malformed
malformed_of r c status.Done read ends = absurd (cc)
malformed_of r c status.Refused read ends = absurd (cc)
malformed_of r c status.Malformed read ends = refl
malformed_of r c status.Usage read ends = absurd read
malformed_of r c status.ReadFault read ends = absurd read
malformed_of r c status.WriteFault read ends = absurd read
malformed_of r c status.TooLong read ends = absurd read
malformed_of r c status.Memory read ends = absurd read
malformed_of r c status.KeeperFault read ends = absurd read

-- The turn of a command that was done.
pub record HasDone (known : KnownLogs) (from to : RunState) (the_command : CaseCommand) (answer : CaseStatus) : Type 0 where
  pub turn : RunTurn
  pub command_is : turn.command ≡ the_command
  pub left_is : turn.left ≡ to
  pub status_is : turn.status ≡ answer
  pub done : IsDoneFrom known from turn

-- The turn of a command that ended the run.
pub record HasEnded (known : KnownLogs) (from to : RunState) (the_command : CaseCommand) (answer : CaseStatus) : Type 0 where
  pub turn : RunTurn
  pub why : EndCause
  pub command_is : turn.command ≡ the_command
  pub left_is : turn.left ≡ to
  pub status_is : end_status why ≡ answer
  pub ends : IsLastTurn known from turn why

module _ (known : KnownLogs) (from to : RunState) (c : CaseCommand) (answer : CaseStatus) (takes : TakesTurn known from to c answer) where
  pub has_done : IsLater from to → ends_run answer ≡ false → HasDone known from to c answer
  has_done later goes = ⊎_elim
      (λ whole.
      let goes_on : ends_run takes.turn.status ≡ false = ap ends_run (sym whole.answer_is) ∙ goes in
      ⊎_elim
      (λ answered. record {
        turn = takes.turn;
        command_is = takes.command_is;
        left_is = takes.left_is;
        status_is = sym whole.answer_is;
        done = record { answered = answered; goes_on = goes_on; written = whole.wrote; later = subst (λ (s : RunState). IsLater from s) (sym takes.left_is) later };
      })
      (λ halted. absurd (no_bool (sym goes_on ∙ ap ends_run halted.1.status_is ∙ halt_ends halted.0)))
      takes.answer_or_halt)
      (λ front. absurd (no_bool (sym goes ∙ ap ends_run front.answer_is)))
      takes.writes

  pub has_ended : ends_run answer ≡ true → HasEnded known from to c answer
  has_ended ends = ⊎_elim
      (λ whole. ⊎_elim
      (λ answered.
      let bad : takes.turn.status ≡ status.Malformed = malformed_of _ _ takes.turn.status answered.read (ap ends_run (sym whole.answer_is) ∙ ends) in
      record {
        turn = takes.turn;
        why = BadLog;
        command_is = takes.command_is;
        left_is = takes.left_is;
        status_is = sym bad ∙ sym whole.answer_is;
        ends = record { answered = answered; status_is = bad; written = whole.wrote };
      })
      (λ halted. record {
        turn = takes.turn;
        why = Halted halted.0;
        command_is = takes.command_is;
        left_is = takes.left_is;
        status_is = sym halted.1.status_is ∙ sym whole.answer_is;
        ends = record { halted = halted.1; written = whole.wrote };
      })
      takes.answer_or_halt)
      (λ front. record {
        turn = takes.turn;
        why = WriteFailed;
        command_is = takes.command_is;
        left_is = takes.left_is;
        status_is = sym front.answer_is;
        ends = record { answer = takes.answer_or_halt; cut = record { cause = front.cause; wrote = front.wrote } };
      })
      takes.writes

-- after a command that does not end the run both slots stay within the limit
pub length_goes : (r : Reading) (answer : CaseStatus) → ends_run answer ≡ false → EndsWithinOrTooLong r answer → BeginsWithin r → EndsWithin r
length_goes r answer unended ends begins = ⊎_elim (λ within. within) (λ told. absurd (not_told answer unended told)) (ends begins)
  where
    not_told : (s : CaseStatus) → ends_run s ≡ false → (s ≡ status.TooLong) ⊎ (s ≡ status.WriteFault) → ⊥
    not_told s unended (inl e) = no_bool (sym unended ∙ ap ends_run e)
    not_told s unended (inr e) = no_bool (sym unended ∙ ap ends_run e)

-- The same in the words of the loop: the commands up to an index, and the one there.

-- what is known of the shelf is what was known when the run began
known_stays : {S : Type 0} (shelf : Shelf S) (a b : S) → shelf.tells b ≡ shelf.tells a → ((log : Which) (name : List ℕ) → shelf.log_of b log name ≡ shelf.log_of a log name) → known_logs shelf b ≡ known_logs shelf a
known_stays shelf a b tells logs =
    ap (λ (t : Bool). record (known_logs shelf b) { tells = t }) tells
    ∙ ap (λ (l : Which → List ℕ → Option (List ℕ)). record (known_logs shelf a) { log_of = l }) (fun_ext (λ log. fun_ext (λ name. logs log name)))

module _ {S : Type 0} (shelf : Shelf S) (commands : List CaseCommand) (i : ℕ) (c : CaseCommand) (less : i < length commands) (there : c ≡ get_or commands i c) (a b d : S) (sink_a sink_b sink_d : SinkState) (keeper_a keeper_b keeper_d : KeeperState)
    (so_far answer : CaseStatus) (going : IsGoing shelf (take i commands) a b sink_a sink_b keeper_a keeper_b so_far) (keeps : KeepsAll shelf b d sink_b sink_d keeper_b keeper_d)
    (turn : TakesTurn (known_logs shelf b) (run_state shelf b sink_b keeper_b) (run_state shelf d sink_d keeper_d) c answer) where
  cut_here_in : commands ≡ take i commands ++ c ∷ drop (suc i) commands
  cut_here_in = sym (take-append-drop i commands) ∙ ap (λ (r : List CaseCommand). take i commands ++ r) (drop-cons commands i c less ∙ ap (λ (x : CaseCommand). x ∷ drop (suc i) commands) (sym there))

  one_more_in : take (i + 1) commands ≡ take i commands ++ c ∷ []
  one_more_in = take_more commands i c less ∙ ap (λ (x : CaseCommand). take i commands ++ x ∷ []) (sym there)

  abbrev known : KnownLogs
  known = known_logs shelf a

  abbrev start : RunState
  start = run_state shelf a sink_a keeper_a

  abbrev end : RunState
  end = run_state shelf d sink_d keeper_d

  turn_in : TakesTurn known (state_after start going.turns) end c answer
  turn_in =
      subst (λ (s : RunState). TakesTurn known s end c answer) (sym going.now_is)
      (subst (λ (k : KnownLogs). TakesTurn k (run_state shelf b sink_b keeper_b) end c answer) (known_stays shelf a b going.stays.logs.tells going.stays.logs.logs) turn)

  stays_in : KeepsAll shelf a d sink_a sink_d keeper_a keeper_d
  stays_in = keeps_both shelf a b d sink_a sink_b sink_d keeper_a keeper_b keeper_d going.stays keeps

  later_in : IsLater (state_after start going.turns) end
  later_in = subst (λ (s : RunState). IsLater s end) (sym going.now_is) (record { slots = keeps.later; sink = keeps.sink.later; keeper = keeps.keeper })

  -- the command ends the run
  pub ends_in : ends_run answer ≡ true → RunsCommands known start end commands answer
  ends_in ends =
      let last = has_ended known (state_after start going.turns) end c answer turn_in ends in
      subst (λ (cs : List CaseCommand). RunsCommands known start end cs answer)
      (ap (λ (cs : List CaseCommand). cs ++ last.turn.command ∷ drop (suc i) commands) going.commands_are ∙ ap (λ (x : CaseCommand). take i commands ++ x ∷ drop (suc i) commands) last.command_is ∙ sym cut_here_in)
      (subst (λ (s : CaseStatus). RunsCommands known start end (turn_commands going.turns ++ last.turn.command ∷ drop (suc i) commands) s) last.status_is
      (subst (λ (s : RunState). RunsCommands known start s (turn_commands going.turns ++ last.turn.command ∷ drop (suc i) commands) (end_status last.why)) last.left_is
      (runs_ended known start going.turns going.done last.turn (drop (suc i) commands) last.why last.ends)))

  -- the run goes on
  pub goes_in : ends_run answer ≡ false → EndsWithinOrTooLong (reading shelf b d) answer → IsGoing shelf (take (i + 1) commands) a d sink_a sink_d keeper_a keeper_d answer
  goes_in goes long =
      let next = has_done known (state_after start going.turns) end c answer turn_in later_in goes in
      record {
        turns = going.turns ++ next.turn ∷ [];
        done = done_more known start going.turns next.turn going.done next.done;
        commands_are = commands_more going.turns next.turn ∙ ap (λ (cs : List CaseCommand). cs ++ next.turn.command ∷ []) going.commands_are
            ∙ ap (λ (x : CaseCommand). take i commands ++ x ∷ []) next.command_is ∙ sym one_more_in;
        now_is = state_more start going.turns next.turn ∙ next.left_is;
        status_is = status_more status.Done going.turns next.turn ∙ next.status_is;
        within = λ begins. length_goes (reading shelf b d) answer goes long (going.within begins);
        stays = stays_in;
      }

  -- both slots stay within the limit, or the length is answered
  pub length_in : EndsWithinOrTooLong (reading shelf b d) answer → EndsWithinOrTooLong (reading shelf a d) answer
  length_in long begins = long (going.within begins)

-- all commands were done
pub all_in : {S : Type 0} (shelf : Shelf S) (done commands : List CaseCommand) (a b : S) (sink_a sink_b : SinkState) (keeper_a keeper_b : KeeperState) (answer : CaseStatus) → done ≡ commands → IsGoing shelf done a b sink_a sink_b keeper_a keeper_b answer
    → RunsCommands (known_logs shelf a) (run_state shelf a sink_a keeper_a) (run_state shelf b sink_b keeper_b) commands answer
all_in shelf done commands a b sink_a sink_b keeper_a keeper_b answer all going =
    let known : KnownLogs = known_logs shelf a in
    let start : RunState = run_state shelf a sink_a keeper_a in
    subst (λ (cs : List CaseCommand). RunsCommands known start (run_state shelf b sink_b keeper_b) cs answer) (going.commands_are ∙ all)
    (subst (λ (s : CaseStatus). RunsCommands known start (run_state shelf b sink_b keeper_b) (turn_commands going.turns) s) going.status_is
    (subst (λ (s : RunState). RunsCommands known start s (turn_commands going.turns) (status_after status.Done going.turns)) going.now_is
    (runs_done known start going.turns going.done)))
