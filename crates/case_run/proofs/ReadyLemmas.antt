-- Where the logs and the cases are known, the shelf has the logs and no fault rises, the answer is Play's, or
-- memory ran out.
use Rattle.std.proofs.Common.{◌≡◌, ◌∙◌, sym, ap, subst, refl, inl, inr, ◌⊎◌, ⊎_elim, ℕ, ◌≤◌, ◌<◌, true, false, List, [], ◌∷◌, ◌++◌, length, Option, None, Some, Result, Ok, Err, IsOk, arith}
use Rattle.std.specs.Prelude.{IsSomeAnd}
use Rattle.audit_base.specs.declared.faults.BadPlace.{BadPlace}
use Rattle.audit_base.specs.declared.records.OrderRecord.{OrderRecord}
use Rattle.audit_base.specs.declared.terms.Which.{Which}
use Rattle.audit_base.specs.declared.terms.Which.TheVariants.{Orders, Trades}
use Rattle.log_verdict.specs.LogVerdicts.{records_of_order_log, trades_of_trade_log}
use Rattle.log_verdict.specs.Steps.{Reading, IsReadFault, IsTooLong}
use Rattle.case_keeper.specs.Keepers.{KeeperState}
use Rattle.case_keeper.specs.declared.case.Case.{Case}
use Rattle.log_source.specs.Sources.{RoseOrIsFull, longest_log}
use Rattle.case_run.specs.Causes.{IsFilingLogInTurn, IsHaltCause, OfFilingLog, filing_log_name, halt_status}
use Rattle.case_run.specs.Runs.{AnswersPlay, HasFilingLogs, HasLogWithin, HasPlayLogs, IsPlayStatus, IsReadyToPlay, RunsCommands, WhereGood}
use Rattle.case_run.specs.Statuses.{ends_run}
use Rattle.case_run.specs.Traces.{AllDone, AreDone, BadLog, EndCause, EndedBy, Ending, IsLastTurn, Halted, IsRunEnding, KnownLogs, RunState, RunTurn, WriteFailed, end_status, ending_state, ending_status, reading_between, state_after, status_after, turn_commands}
use Rattle.case_run.specs.declared.commands.CaseCommand.{CaseCommand}
use Rattle.case_run.specs.declared.commands.CaseCommand.TheVariants as command
use Rattle.case_run.specs.declared.commands.Filing.{Filing}
use Rattle.case_run.specs.declared.halts.Halt.{Halt}
use Rattle.case_run.specs.declared.halts.Halt.TheVariants as halt
use Rattle.case_run.specs.declared.statuses.CaseStatus.{CaseStatus}
use Rattle.case_run.specs.declared.statuses.CaseStatus.TheVariants as status
use Rattle.case_run.proofs.PlayLemmas.{held_after}
use Rattle.case_run.proofs.RunLemmas.{later_turns}

-- A shelf has a log.
pub record HasLog (log : Option (List ℕ)) : Type 0 where
  pub bytes : List ℕ
  pub is : log ≡ Some bytes
  pub within : length bytes ≤ longest_log

has_log : (log : Option (List ℕ)) (holds : List ℕ → Type 0) → HasLogWithin log holds → HasLog log
has_log None holds held = absurd held
has_log (Some bytes) holds held = record { bytes = bytes; is = refl; within = held.0 }

held_there : (log : Option (List ℕ)) → HasLog log → log ≡ None → ⊥
held_there log has none = let is = has.is in cc

held_within : (limit : ℕ) → limit ≡ longest_log → (log : Option (List ℕ)) → HasLog log → IsSomeAnd log (λ bytes. limit < length bytes) → ⊥
held_within limit few log has long =
    let longer : limit < length has.bytes = subst (λ (o : Option (List ℕ)). IsSomeAnd o (λ bytes. limit < length bytes)) has.is long in
    let within = has.within in
    omega (arith, few, longer, within)

module _ (r : Reading) (few : r.limit ≡ longest_log) (tells : r.tells ≡ true) (quiet : (log : Which) → ¬ RoseOrIsFull (r.before log).faults (r.after log).faults) (wanted : Filing) (next : Type 0) (held : HasFilingLogs r.log_of wanted next) where
  -- a log that was started is held
  started_held : (log : Which) → IsFilingLogInTurn r wanted log → HasLog (r.log_of log (filing_log_name wanted log))
  started_held Orders started = has_log (r.log_of Orders wanted.orders) _ held
  started_held Trades started =
      let there = subst (λ (o : Option (List ℕ)). HasLogWithin o (λ orders. WhereGood (records_of_order_log wanted.form orders) (HasLogWithin (r.log_of Trades wanted.trades) (λ trades. WhereGood (trades_of_trade_log wanted.form trades) next)))) (started.read.known tells) held in
      after_good (records_of_order_log wanted.form started.bytes) started.holds there.1
    where
      after_good : (said : Result (List OrderRecord) BadPlace) → IsOk said → WhereGood said (HasLogWithin (r.log_of Trades wanted.trades) (λ trades. WhereGood (trades_of_trade_log wanted.form trades) next)) → HasLog (r.log_of Trades wanted.trades)
      after_good (Ok entries) good there = has_log (r.log_of Trades wanted.trades) _ there
      after_good (Err bad) good there = absurd (cc)

  no_fault : (log : Which) → OfFilingLog IsReadFault r wanted log → ⊥
  no_fault log is = by_cause is.holds.cause
    where
      by_cause : RoseOrIsFull (r.before log).faults (r.after log).faults ⊎ ((r.tells ≡ true) × (r.log_of log (filing_log_name wanted log) ≡ None)) → ⊥
      by_cause (inl rose) = quiet log rose
      by_cause (inr (t, none)) = held_there (r.log_of log (filing_log_name wanted log)) (started_held log is.in_turn) none

  no_length : (log : Which) → OfFilingLog IsTooLong r wanted log → ⊥
  no_length log is = held_within r.limit few (r.log_of log (filing_log_name wanted log)) (started_held log is.in_turn) (is.holds.longer tells)

-- No fault was counted of a reading of logs that are known.
pub record IsQuiet (r : Reading) : Type 0 where
  pub few : r.limit ≡ longest_log
  pub tells : r.tells ≡ true
  pub quiet : (log : Which) → ¬ RoseOrIsFull (r.before log).faults (r.after log).faults

-- where all is there no cause but out of memory holds
no_cause : (r : Reading) (old new : KeeperState) → IsQuiet r → ¬ RoseOrIsFull old.faults new.faults → (last : CaseCommand) (rest : List CaseCommand) (why : Halt)
    → HasPlayLogs r.log_of (last ∷ rest) → IsHaltCause r old new last why → why ≡ halt.Memory
no_cause r old new is still (command.File wanted) rest (halt.ReadFault log) held cause =
    absurd (no_fault r is.few is.tells is.quiet wanted (HasPlayLogs r.log_of rest) held log cause)
no_cause r old new is still (command.File wanted) rest (halt.TooLong log) held cause =
    absurd (no_length r is.few is.tells is.quiet wanted (HasPlayLogs r.log_of rest) held log cause)
no_cause r old new is still (command.List filter) rest (halt.ReadFault log) held cause = absurd cause
no_cause r old new is still (command.List filter) rest (halt.TooLong log) held cause = absurd cause
no_cause r old new is still (command.Show label) rest (halt.ReadFault log) held cause = absurd cause
no_cause r old new is still (command.Show label) rest (halt.TooLong log) held cause = absurd cause
no_cause r old new is still last rest halt.KeeperFault held cause = absurd (still cause.1)
no_cause r old new is still last rest halt.Memory held cause = refl

rose_earlier : (a b c : ℕ) → a ≤ b → RoseOrIsFull b c → RoseOrIsFull a c
rose_earlier a b c le (inl lt) = inl (omega arith)
rose_earlier a b c le (inr top) = inr top

going_status : (known : KnownLogs) (from : RunState) (before : CaseStatus) (turns : List RunTurn) → ends_run before ≡ false → AreDone known from turns → ends_run (status_after before turns) ≡ false
going_status known from before [] goes done = goes
going_status known from before (turn ∷ turns) goes done = going_status known turn.left turn.status turns done.0.goes_on done.1

play_status : (s : CaseStatus) → ends_run s ≡ false → IsPlayStatus s
play_status status.Done goes = inl refl
play_status status.Refused goes = inr (inl refl)
play_status status.Malformed goes = absurd (cc)
play_status status.Usage goes = absurd (cc)
play_status status.ReadFault goes = absurd (cc)
play_status status.WriteFault goes = absurd (cc)
play_status status.TooLong goes = absurd (cc)
play_status status.Memory goes = absurd (cc)
play_status status.KeeperFault goes = absurd (cc)

-- where all is there a run ends as Play does, or since memory ran out
module _ (known : KnownLogs) (few : known.limit ≡ longest_log) (from : RunState) (commands : List CaseCommand) (cases : List Case) (turns : List RunTurn) where
  -- from where the turns left off no fault was counted
  module _ (to : RunState) (ready : IsReadyToPlay known from to commands cases) (done : AreDone known from turns) where
    quiet_end : IsQuiet (reading_between known (state_after from turns) to)
    quiet_end = record {
      few = few;
      tells = ready.knows.logs;
      quiet = λ log rose. ready.no_fault.slots log (rose_earlier _ _ _ ((later_turns known from turns done).slots log) rose);
    }

    still_keeper : ¬ RoseOrIsFull (state_after from turns).keeper.faults to.keeper.faults
    still_keeper rose = ready.no_fault.keeper (rose_earlier _ _ _ (later_turns known from turns done).keeper rose)

    still_sink : ¬ RoseOrIsFull (state_after from turns).sink.faults to.sink.faults
    still_sink rose = ready.no_fault.sink (rose_earlier _ _ _ (later_turns known from turns done).sink rose)

  play_or_memory : (turn : RunTurn) (rest : List CaseCommand) → commands ≡ turn_commands turns ++ turn.command ∷ rest → IsReadyToPlay known from turn.left commands cases → AreDone known from turns
      → (why : EndCause) → IsLastTurn known (state_after from turns) turn why → IsPlayStatus (end_status why) ⊎ (end_status why ≡ status.Memory)
  play_or_memory turn rest are ready done BadLog ends = inl (inr (inr refl))
  play_or_memory turn rest are ready done (Halted why) ends =
      inr (ap halt_status (no_cause (reading_between known (state_after from turns) turn.left) (state_after from turns).keeper turn.left.keeper
      (quiet_end turn.left ready done) (still_keeper turn.left ready done) turn.command rest why
      (held_after known from turns cases (turn.command ∷ rest) done ready.knows (subst (λ (cs : List CaseCommand). HasPlayLogs known.log_of cs) are ready.has_logs)) ends.halted.cause))
  play_or_memory turn rest are ready done WriteFailed ends = absurd (still_sink turn.left ready done ends.cut.cause.rose)

  ends_of_play : (ending : Ending) (to : RunState) (undone : List CaseCommand) → commands ≡ turn_commands turns ++ undone → AreDone known from turns → IsRunEnding known (state_after from turns) undone ending
      → to ≡ ending_state (state_after from turns) ending → IsReadyToPlay known from to commands cases
      → IsPlayStatus (ending_status (status_after status.Done turns) ending) ⊎ (ending_status (status_after status.Done turns) ending ≡ status.Memory)
  ends_of_play AllDone to undone are done ends at ready = inl (play_status (status_after status.Done turns) (going_status known from status.Done turns refl done))
  ends_of_play (EndedBy turn why) to undone are done ends at ready =
      play_or_memory turn ends.0.0 (are ∙ ap (λ (cs : List CaseCommand). turn_commands turns ++ cs) ends.0.1) (subst (λ (s : RunState). IsReadyToPlay known from s commands cases) at ready) done why ends.1

pub ready_answers : (known : KnownLogs) (from to : RunState) → known.limit ≡ longest_log → (commands : List CaseCommand) (cases : List Case) (answer : CaseStatus) → IsReadyToPlay known from to commands cases
    → RunsCommands known from to commands answer → AnswersPlay known from to commands answer cases ⊎ (answer ≡ status.Memory)
ready_answers known from to few commands cases answer ready runs =
    ⊎_elim
    (λ play. inl (runs.played (subst IsPlayStatus (sym runs.status_is) play) cases ready.knows))
    (λ memory. inr (runs.status_is ∙ memory))
    (ends_of_play known few from commands cases runs.trace.turns runs.trace.ending to runs.is.undone runs.is.commands_are runs.is.done runs.is.ends runs.state_is ready)
