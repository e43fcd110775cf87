-- Where all is there, the answer is what the command leaves of the logs and of what is on file, or memory ran out.
use Rattle.std.proofs.Common.{◌≡◌, ◌∙◌, ap, subst, refl, inl, inr, ◌⊎◌, ⊎_elim, ℕ, ◌≤◌, ◌<◌, true, List, length, Option, None, Some, Result, Ok, Err, arith}
use Rattle.std.specs.Prelude.{IsSomeAnd, IfSome, is_ok}
use Rattle.audit_base.specs.declared.faults.BadPlace.{BadPlace}
use Rattle.audit_base.specs.declared.records.OrderRecord.{OrderRecord}
use Rattle.audit_base.specs.declared.terms.Which.{Which}
use Rattle.audit_base.specs.declared.terms.Which.TheVariants.{Orders, Trades}
use Rattle.case_run.specs.Causes.{halt_status}
use Rattle.case_run.specs.Writing.{WritesTextWhole}
use Rattle.case_run.specs.declared.halts.Halt.{Halt}
use Rattle.case_run.specs.declared.halts.Halt.TheVariants as halt
use Rattle.case_run.specs.declared.statuses.CaseStatus.{CaseStatus}
use Rattle.case_run.specs.declared.statuses.CaseStatus.TheVariants as status
use Rattle.desk_words.specs.declared.requests.NamedLogs.{NamedLogs}
use Rattle.digest_keeper.specs.DigestKeepers.{DigestKeeperState}
use Rattle.digest_keeper.specs.declared.digested.KeptCase.{KeptCase}
use Rattle.desk_filing.specs.Causes.{HoldsOfPass, IsLogInTurn, ReadsDigestedLogs, ReadsLogsUpTo, StopsAtLog, day_log_name}
use Rattle.desk_filing.specs.Runs.{AnswersBy, AnswersOfPass, FilesRequest, FilesTurn, FilingCall, HaltsBy, HoldsNamedLogs, HoldsLogWithin, IsReadyToFile, RunsRequest, WhereGoodLog, kept_after, EndsWithinOrAnswers}
use Rattle.desk_filing.specs.Turns.{DigestedLogs, FilingTurn, IsFilingTurn, IsTurnOfLogs}
use Rattle.desk_filing.specs.declared.requests.FilingRequest.{FilingRequest}
use Rattle.desk_filing.proofs.KeeperLemmas.{rose_earlier}
use Rattle.desk_filing.proofs.LogLemmas.{known_turn}
use Rattle.desk_filing.proofs.PassLemmas.{of_pass}
use Rattle.log_source.specs.Sinks.{SinkState}
use Rattle.log_source.specs.Sources.{RoseOrIsFull, Slot, longest_read}
use Rattle.log_verdict.specs.LogVerdicts.{records_of_order_log}
use Rattle.log_verdict.specs.Steps.{Reading, FaultsNeverFall, IsReadFault, IsTooLong}

-- A shelf has a log.
pub record HasLog (log : Option (List ℕ)) : Type 0 where
  pub bytes : List ℕ
  pub is : log ≡ Some bytes
  pub within : length bytes ≤ longest_read

has_log : (log : Option (List ℕ)) (holds : List ℕ → Type 0) → HoldsLogWithin log holds → HasLog log
has_log None holds held = absurd held
has_log (Some bytes) holds held = record { bytes = bytes; is = refl; within = held.0 }

held_there : (log : Option (List ℕ)) → HasLog log → log ≡ None → ⊥
held_there log has none = let is = has.is in cc

held_within : (limit : ℕ) → limit ≡ longest_read → (log : Option (List ℕ)) → HasLog log → IsSomeAnd log (λ bytes. limit < length bytes) → ⊥
held_within limit few log has long =
    let longer : limit < length has.bytes = subst (λ (o : Option (List ℕ)). IsSomeAnd o (λ bytes. limit < length bytes)) has.is long in
    let within = has.within in
    omega (arith, few, longer, within)

module _ (r : Reading) (few : r.limit ≡ longest_read) (tells : r.tells ≡ true) (quiet : (log : Which) → ¬ RoseOrIsFull (r.before log).faults (r.after log).faults) (logs : NamedLogs) (held : HoldsNamedLogs r.log_of logs) where
  abbrev Second : List ℕ → Type 0
  Second orders = WhereGoodLog (records_of_order_log logs.orders_form orders) (HoldsLogWithin (r.log_of Trades logs.trades) (λ trades. Unit {0}))

  after_good : (said : Result (List OrderRecord) BadPlace) → is_ok said ≡ true → WhereGoodLog said (HoldsLogWithin (r.log_of Trades logs.trades) (λ trades. Unit {0})) → HasLog (r.log_of Trades logs.trades)
  after_good (Ok entries) good there = has_log (r.log_of Trades logs.trades) _ there
  after_good (Err bad) good there = absurd (cc)

  -- a log that was started is held
  started_held : (log : Which) → IsLogInTurn r logs log → HasLog (r.log_of log (day_log_name logs log))
  started_held Orders started = has_log (r.log_of Orders logs.orders) Second held
  started_held Trades started =
      let there : HoldsLogWithin (Some started.bytes) Second = subst (λ (o : Option (List ℕ)). HoldsLogWithin o Second) (started.read.known tells) held in
      after_good (records_of_order_log logs.orders_form started.bytes) started.holds there.1

  no_fault : (log : Which) → StopsAtLog IsReadFault r logs log → ⊥
  no_fault log is = ⊎_elim (λ rose. quiet log rose) (λ none. held_there (r.log_of log (day_log_name logs log)) (started_held log is.in_turn) none.1) is.holds.cause

  no_length : (log : Which) → StopsAtLog IsTooLong r logs log → ⊥
  no_length log is = held_within r.limit few (r.log_of log (day_log_name logs log)) (started_held log is.in_turn) (is.holds.longer tells)

  -- no cause of the logs holds
  no_log_cause : (why : Halt) → ReadsLogsUpTo r logs why → (why ≡ halt.KeeperFault) ⊎ (why ≡ halt.Memory)
  no_log_cause (halt.ReadFault log) read = absurd (no_fault log read)
  no_log_cause (halt.TooLong log) read = absurd (no_length log read)
  no_log_cause halt.KeeperFault read = inl refl
  no_log_cause halt.Memory read = inr refl

module _ (call : FilingCall) (few : call.reading.limit ≡ longest_read) (request : FilingRequest) (kept : List KeptCase) (old new : SinkState) (ready : IsReadyToFile call request kept old new) where
  -- the keeper of a database that was opened or not did not fail
  no_keeper : (keeper : Option DigestKeeperState) → IfSome keeper (λ k. ¬ RoseOrIsFull 0 k.faults) → (why : Halt) → why ≡ halt.KeeperFault → HaltsBy call request why keeper → ⊥
  no_keeper None still why is by = ⊎_elim (λ rose. ready.opener rose) (λ none. let there = ready.on_file in let not = none.1 in cc) (by is).refused
  no_keeper (Some keeper) still why is by = still (subst (λ (n : ℕ). RoseOrIsFull n keeper.faults) by.is_opened.fresh (by.fault is))

  -- no log failed in a second pass either
  quiet_again : (between : Which → Slot) → FaultsNeverFall (record call.reading { after = between }) → (log : Which) → ¬ RoseOrIsFull (between log).faults (call.reading.after log).faults
  quiet_again between later log rose = ready.shelf log (rose_earlier (call.reading.before log).faults (between log).faults (call.reading.after log).faults (later log) rose)

  -- no cause but out of memory holds
  only_memory : (why : Halt) → HoldsOfPass request.command (λ pass. ReadsLogsUpTo pass request.logs why) call.reading request.logs → HaltsBy call request why call.keeper → why ≡ halt.Memory
  only_memory why read by = ⊎_elim
      (λ is. absurd (no_keeper call.keeper ready.keeper why is by))
      (λ is. is)
      (of_pass request.command (λ pass. ReadsLogsUpTo pass request.logs why) call.reading request.logs ((why ≡ halt.KeeperFault) ⊎ (why ≡ halt.Memory))
      (λ once. no_log_cause call.reading few ready.tells ready.shelf request.logs ready.holds why once)
      (λ between later again. no_log_cause (record call.reading { before = between }) few ready.tells (quiet_again between later) request.logs ready.holds why again)
      read)

  module _ (pass : Reading) (tells : pass.tells ≡ true) (same : pass.log_of ≡ call.reading.log_of) (given : DigestedLogs) (reads : ReadsDigestedLogs pass request.logs given) where
    -- what a command leaves of the logs of a pass
    left_of : (turn : FilingTurn) → IsTurnOfLogs given kept request turn → IsFilingTurn call.reading.log_of kept request turn
    left_of turn is = subst (λ (logs : Which → List ℕ → Option (List ℕ)). IsFilingTurn logs kept request turn) same (known_turn pass request given kept turn tells reads is)

    files : (keeper : Option DigestKeeperState) → call.keeper ≡ keeper → (the_status : CaseStatus) (text : List ℕ) (answer : CaseStatus) → AnswersBy call given request the_status text keeper → WritesTextWhole old new the_status text answer
        → FilesTurn call request kept old new answer
    files None is_there the_status text answer by whole = record {
      turn = record { kept = kept; text = text; status = the_status };
      is = left_of (record { kept = kept; text = text; status = the_status }) (by.1 kept);
      status_is = whole.answer_is;
      wrote = whole.wrote;
      kept_is = ap (kept_after kept) is_there;
    }
    files (Some keeper) is_there the_status text answer by whole =
        let leaves = by.turn kept ((by.is_opened.known ready.opener_tells).1 ∙ ready.on_file) in
        record {
          turn = record { kept = leaves.left; text = text; status = the_status };
          is = left_of (record { kept = leaves.left; text = text; status = the_status }) leaves.is;
          status_is = whole.answer_is;
          wrote = whole.wrote;
          kept_is = ap (kept_after kept) is_there ∙ leaves.kept_is;
        }

  pub ready_answers : (answer : CaseStatus) → RunsRequest call request old new answer → FilesTurn call request kept old new answer ⊎ (answer ≡ status.Memory)
  ready_answers answer runs = ⊎_elim
      (λ whole. ⊎_elim
      (λ answers. inl (of_pass request.command (AnswersOfPass call request runs.decided runs.text) call.reading request.logs (FilesTurn call request kept old new answer)
      (λ once. files call.reading ready.tells refl once.by.given once.by.reads call.keeper refl runs.decided runs.text answer once.by.is whole)
      (λ between later again. files (record call.reading { before = between }) ready.tells refl again.by.given again.by.reads call.keeper refl runs.decided runs.text answer again.by.is whole)
      answers))
      (λ halts. inr (whole.answer_is ∙ halts.status_is ∙ ap halt_status (only_memory halts.why halts.read halts.by)))
      runs.answers)
      (λ front. absurd (ready.sink front.cause.rose))
      runs.writes

-- all that a call says, from what it did
pub files_request : (call : FilingCall) → call.reading.limit ≡ longest_read → (request : FilingRequest) (old new : SinkState) (answer : CaseStatus) → RunsRequest call request old new answer → EndsWithinOrAnswers call.reading answer → FaultsNeverFall call.reading
    → FilesRequest call request old new answer
files_request call few request old new answer runs ends never = record {
  headline = λ kept ready. ready_answers call few request kept old new ready answer runs;
  runs = runs;
  length = ends;
  later = never;
}
