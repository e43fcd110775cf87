-- Where the shelf holds the logs and nothing fails, the answer is written, or memory ran out.
use Rattle.std.proofs.Common.{◌≡◌, ◌∙◌, sym, ap, subst, refl, inl, inr, ⊎_elim, ℕ, ◌+◌, ◌<◌, ◌≤◌, Bool, true, false, List, [], ◌∷◌, ◌++◌, length, drop, Option, Some, None, arith}
use Rattle.std.specs.Prelude.{IfSome, IsSomeAnd}
use Rattle.std.specs.Io.{StartsWith}
use Rattle.std.proofs.lemmas.List.{take-append-drop}
use Rattle.audit_base.specs.declared.terms.Which.{Which}
use Rattle.audit_report.specs.declared.statuses.Status.{Status}
use Rattle.audit_report.specs.declared.statuses.Status.TheVariants as status
use Rattle.log_source.specs.Sinks.{SinkState, SinkStays}
use Rattle.log_source.specs.Sources.{RoseOrIsFull}
use Rattle.command_run.specs.InMemory.{HasRoomForAnswer}
use Rattle.command_run.specs.Commands.{Command}
use Rattle.command_run.specs.Early.{BeginsAnswer, IsEarlyAt}
use Rattle.command_run.specs.Runs.{AllIsThere, AnswersCommand, HoldsLog, HoldsNeededLogs, IsAnswerToReadLogs, IsEarlyText, IsTextBegun, ReadingDecides, ReadsThenStarts, RunsOutBefore, StopsTooLong, StopsUnreadable, WritesAnswer, WritesBeforeMemory, WritesPrefix}
use Rattle.log_verdict.specs.Steps.{Reading, LogStep}
use Rattle.command_run.proofs.RoomLemmas.{never_cut}
use Rattle.command_run.proofs.StepLemmas.{held-after, held-first, held-next, held-none, held-some, held-all, rose-in}

-- a held log isn't missing
held_there : (log : Option (List ℕ)) (bytes : List ℕ) → log ≡ Some bytes → log ≡ None → ⊥
held_there log bytes held none = cc

-- a held log isn't too long
held_within : (limit : ℕ) (log : Option (List ℕ)) (bytes : List ℕ) → log ≡ Some bytes → length bytes ≤ limit → IsSomeAnd log (λ b. limit < length b) → ⊥
held_within limit log bytes held within long =
    let longer : limit < length bytes = rw held at long in omega arith

-- the answer to the logs that were read is that to those that are held
pub held_answer : (r : Reading) (command : Command) (logs : List (List ℕ)) (the_status : Status) (text : List ℕ) → r.tells ≡ true → HoldsNeededLogs r command [] logs → IsAnswerToReadLogs r command the_status text
    → command.is_answer logs the_status text
held_answer r command logs the_status text tells held is =
    subst (λ (x : List (List ℕ)). command.is_answer x the_status text)
    (held-all r command [] is.steps is.logs logs tells is.read is.all held) is.answer

-- what is held of the next log goes on from the front that was read
module _ (r : Reading) (command : Command) (tells : r.tells ≡ true) where
  goes-on : (bytes front : List ℕ) → StartsWith bytes front → bytes ≡ front ++ drop (length front) bytes
  goes-on bytes front is =
      sym (take-append-drop (length front) bytes) ∙ ap (λ (x : List ℕ). x ++ drop (length front) bytes) is

  known-front : (log : Option (List ℕ)) (bytes front : List ℕ) → log ≡ Some bytes → IfSome log (λ b. StartsWith b front) → StartsWith bytes front
  known-front log bytes front there is = rw there at is

  begins_rest : (logs rest : List (List ℕ)) (last : LogStep) (text : List ℕ) → command.next logs ≡ Some (last.log, last.name) → HoldsNeededLogs r command logs rest
      → IsEarlyAt r command logs last text → BeginsAnswer command (logs ++ rest) text
  begins_rest logs [] last text next holds is = absurd (held-some r command logs (last.log, last.name) next holds)
  begins_rest logs (bytes ∷ later) last text next holds is =
      let there : r.log_of last.log last.name ≡ Some bytes = held-first r command logs bytes (last.log, last.name) next holds.0 in
      let starts = known-front (r.log_of last.log last.name) bytes is.front there (is.read.known tells) in
      subst (λ (x : List ℕ). BeginsAnswer command (logs ++ x ∷ later) text) (sym (goes-on bytes is.front starts)) (is.begins (drop (length is.front) bytes) later)

-- it is known what the shelf holds, it holds these logs, and none of its faults rose
module _ (r : Reading) (command : Command) (logs : List (List ℕ)) (tells : r.tells ≡ true) (held : HoldsNeededLogs r command [] logs) (quiet : (log : Which) → ¬ RoseOrIsFull (r.before log).faults (r.after log).faults) where
  -- the log that the reading reached is held
  last_held : (last : LogStep) → ReadsThenStarts r command last → (bytes : List ℕ) × HoldsLog r last.log last.name bytes
  last_held last reached =
      let left = held-after r command [] reached.steps reached.logs logs tells reached.read held (last.log, last.name) reached.next in
      held-next r command reached.logs left.0 (last.log, last.name) reached.next left.1

  pub no_fault : (text : List ℕ) → StopsUnreadable r command text → ⊥
  no_fault text stops =
      let next = last_held stops.last stops.reads in
      ⊎_elim (λ rose. quiet stops.last.log (rose-in r.before stops.reads.steps stops.last r.after stops.reads.lead rose))
      (λ none. held_there (r.log_of stops.last.log stops.last.name) next.0 next.1.there none.1) stops.cause.cause

  pub no_length : (text : List ℕ) → StopsTooLong r command text → ⊥
  no_length text stops =
      let next = last_held stops.last stops.reads in
      held_within r.limit (r.log_of stops.last.log stops.last.name) next.0 next.1.there next.1.fits_limit (stops.cause.longer tells)

  pub of_held : (the_status : Status) (text : List ℕ) → IsAnswerToReadLogs r command the_status text → command.is_answer logs the_status text
  of_held the_status text is = held_answer r command logs the_status text tells held is

  -- what may be written before all is read begins the answer to the logs that are held
  pub begins_held : (text : List ℕ) → IsEarlyText r command text → BeginsAnswer command logs text
  begins_held text (inl is) =
      let left = held-after r command [] is.reads.steps is.reads.logs logs tells is.reads.read held (is.last.log, is.last.name) is.reads.next in
      subst (λ (x : List (List ℕ)). BeginsAnswer command x text) (sym left.2)
      (begins_rest r command tells is.reads.logs left.0 is.last text is.reads.next left.1 is.early)
  begins_held text (inr is) = subst (λ (x : List (List ℕ)). BeginsAnswer command x text) (sym (held-none r command logs is.needs_none held)) is.begins

  module _ (old new : SinkState) where
    memory_before : (early : Bool) → WritesBeforeMemory early r command old new → RunsOutBefore early command logs old new status.Memory
    memory_before false is = record { status_is = refl; nothing = is }
    memory_before true (inl same) = record { status_is = refl; front = inl same }
    memory_before true (inr is) = record { status_is = refl; front = inr (record { text = is.text; is = begins_held is.text is.is; wrote = is.wrote }) }

    -- the answer was written, unless the sink failed
    pub answer_unless : (result : Status) → ((result ≡ status.WriteFault) → WritesPrefix (IsTextBegun command.writes_early r command) old new → ⊥) → AnswersCommand r command old new result → WritesAnswer command logs old new result
    answer_unless status.Accepted sound is = inl (record { text = is.text; is = of_held status.Accepted is.text is.is; wrote = is.wrote })
    answer_unless status.Rejected sound is = inl (record { text = is.text; is = of_held status.Rejected is.text is.is; wrote = is.wrote })
    answer_unless status.Malformed sound is = inl (record { text = is.text; is = of_held status.Malformed is.text is.is; wrote = is.wrote })
    answer_unless status.Memory sound is = inr (memory_before command.writes_early is)
    answer_unless status.Usage sound is = absurd is
    answer_unless status.ReadFault sound is = absurd (no_fault is.text is.is)
    answer_unless status.TooLong sound is = absurd (no_length is.text is.is)
    answer_unless status.WriteFault sound is = absurd (sound refl is)

-- where all is there, the answer is written
pub answer_written : (r : Reading) (command : Command) (logs : List (List ℕ)) (old new : SinkState) (result : Status) → AllIsThere r command logs old new → AnswersCommand r command old new result → WritesAnswer command logs old new result
answer_written r command logs old new result ready is =
    answer_unless r command logs ready.known.shelf_tells ready.held ready.nothing_fails.no_fault_of_shelf old new result (λ e part. ready.nothing_fails.no_fault_of_sink part.cause.rose) is

module _ (r : Reading) (command : Command) (logs : List (List ℕ)) (tells : r.tells ≡ true) (quiet : (log : Which) → ¬ RoseOrIsFull (r.before log).faults (r.after log).faults) where
  -- every text that may be written has room
  fits : (written room : ℕ) (ready : HasRoomForAnswer r command logs written room) (the_status : Status) (text : List ℕ) → ReadingDecides r command the_status text → written + length text ≤ room
  fits written room ready status.Accepted text is = ready.room_left status.Accepted text (of_held r command logs tells ready.held quiet status.Accepted text is)
  fits written room ready status.Rejected text is = ready.room_left status.Rejected text (of_held r command logs tells ready.held quiet status.Rejected text is)
  fits written room ready status.Malformed text is = ready.room_left status.Malformed text (of_held r command logs tells ready.held quiet status.Malformed text is)
  fits written room ready status.ReadFault text is = absurd (no_fault r command logs tells ready.held quiet text is)
  fits written room ready status.TooLong text is = absurd (no_length r command logs tells ready.held quiet text is)
  fits written room ready status.Usage text is = absurd is
  fits written room ready status.WriteFault text is = absurd is
  fits written room ready status.Memory text is = absurd is

  begun_fits : (written room : ℕ) (ready : HasRoomForAnswer r command logs written room) (early : Bool) → command.writes_early ≡ early → (text : List ℕ) → IsTextBegun early r command text → written + length text ≤ room
  begun_fits written room ready false e text is = fits written room ready is.status text is.decides
  begun_fits written room ready true e text (inl is) = fits written room ready is.status text is.decides
  begun_fits written room ready true e text (inr is) = ready.early_room e text (begins_held r command logs tells ready.held quiet text is)

  pub answer_in_room : (old new : SinkState) (before : List ℕ) (room : ℕ) (result : Status) → old.wrote ≡ Some before → old.sure ≡ room → SinkStays old new → HasRoomForAnswer r command logs (length before) room
      → AnswersCommand r command old new result → WritesAnswer command logs old new result
  answer_in_room old new before room result wrote sure stays ready is =
      answer_unless r command logs tells ready.held quiet old new result
      (λ e part. never_cut (IsTextBegun command.writes_early r command) old new before room wrote sure stays (begun_fits (length before) room ready command.writes_early refl) part) is
