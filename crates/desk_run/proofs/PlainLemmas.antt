-- A day that is written while it is read, and what is left of it.
use Rattle.std.proofs.Common.{◌≡◌, ◌≤◌, ◌⊎◌, refl, sym, subst, ap, ◌∙◌, inl, inr, ℕ, Bool, true, false, List, [], ◌∷◌, ◌++◌, take, Option, Some, None, Result, Ok, Err, append_assoc, arith}
use Rattle.std.specs.Prelude.{IsTrue, ◌&&◌, ◌||◌, IfErr, IfOk, IfSome, length, MatchResult, nat_eq, nat_le}
use Rattle.std.specs.Char.{is_ascii_graphic}
use Rattle.std.specs.Io.{StartsWith}
use Rattle.std.specs.Io.KnownBytes.{Appends}
use Rattle.std.specs.List.{flat_map, list_all, starts_with}
use Rattle.std.proofs.KnownBytes.{Appends-nil, Appends-trans}
use Rattle.std.proofs.lemmas.Grind.{flat_map-append}
use Rattle.std.proofs.lemmas.List.{take_at}
use Rattle.audit_base.specs.declared.terms.Which.{Which}
use Rattle.audit_base.specs.declared.terms.Which.TheVariants.{Orders, Trades}
use Rattle.audit_base.specs.Sizes.{soh}
use Rattle.audit_report.specs.declared.statuses.Status.{Status}
use Rattle.audit_report.specs.declared.statuses.Status.TheVariants as status
use Rattle.audit_report.specs.Lines.{read_fault_line, too_long_line}
use Rattle.command_run.specs.declared.answers.Answer.{Answer}
use Rattle.command_run.specs.Commands.{Command}
use Rattle.command_run.specs.Deciding.{DecidesRest, IsAnswerOfKind, RestStops}
use Rattle.command_run.specs.Early.{BeginsEveryAnswer, IsEarlyAt, ReadsFront}
use Rattle.command_run.specs.Runs.{AnswersCommand, IsAnswerToReadLogs, IsEarlyText, ReadingDecides, ReadsThenStarts}
use Rattle.command_run.specs.VerdictAnswers.{IsAnswerWith}
use Rattle.command_run.specs.Writing.{AnswersStop, AnswersText, HasWritten}
use Rattle.desk_words.specs.DressWords.{HasSohWord}
use Rattle.desk_words.specs.declared.dress_words.BadMessages.{BadMessages}
use Rattle.desk_words.specs.declared.dress_words.DayDress.{DayDress}
use Rattle.desk_words.specs.declared.dress_words.DayDress.TheVariants.{OnLines}
use Rattle.desk_words.specs.declared.requests.DeskRequest.{DeskRequest}
use Rattle.desk_words.specs.declared.requests.DeskRequest.TheVariants.{Early, Whole}
use Rattle.desk_words.specs.declared.requests.EarlyRequest.TheVariants.{Orders as GeneratedOrders, Plain}
use Rattle.fix_days.specs.declared.faults.BadMessage.{BadMessage}
use Rattle.fix_days.specs.Fronts.{BeginsReadings}
use Rattle.fix_days.specs.Lines.{is_graphic, is_soh_text}
use Rattle.log_source.specs.declared.shelf.Shelf.{Ghosts as Shelf}
use Rattle.log_source.specs.declared.take.TakeFault.{TakeFault}
use Rattle.log_source.specs.declared.take.TakeFault.TheVariants as take
use Rattle.log_source.specs.Sinks.{SinkState, SinkStays}
use Rattle.log_source.specs.Sources.{Slot, longest_read}
use Rattle.log_verdict.specs.declared.stops.Stop.{Stop}
use Rattle.log_verdict.specs.declared.stops.Stop.TheVariants as stop
use Rattle.log_verdict.specs.BothLogs.{IsLogStop, StaysWithin}
use Rattle.log_verdict.specs.Collecting.{TouchesOnly}
use Rattle.log_verdict.specs.Steps.{EndsWithin, FaultsNeverFall, IsRead, LogStep, Reading, with_slot, step_of}
use Rattle.plain_logs.specs.declared.day_ends.DayEnd.{DayEnd}
use Rattle.plain_logs.specs.declared.day_ends.PlainFault.{PlainFault}
use Rattle.plain_logs.specs.declared.day_ends.PlainFault.TheVariants as plain
use Rattle.plain_logs.specs.PlainLogs.{ReadsFrontOf, StopsWriting, TakesUpTo, WritesUpToEnd}
use Rattle.desk_run.specs.Digesting.{stop_of_take}
use Rattle.desk_run.specs.PlainAnswers.{bad_line, day_reading, day_writes, IsPlainAnswer, plain_status, text_for_soh}
use Rattle.desk_run.specs.PlainMessages.{WritesMessages, WritesMessagesOf, WritesOfFront, WritesUnfailing}
use Rattle.desk_run.specs.PlainWriting.{FailsAt, WritesDay, WritesToEnd, WritesToStop, WritesWithin}
use Rattle.desk_run.specs.Requests.{desk_command_of}
use Rattle.desk_run.specs.TopCall.{desk_reading}
use Rattle.desk_run.proofs.DigestLemmas.{first_stop, stop-cause, stop-within}

first-ends : (r : Reading) → (r.after Orders).taken ≤ r.limit → (r.after Trades).taken ≤ r.limit → EndsWithin r
first-ends r orders trades Orders = orders
first-ends r orders trades Trades = trades

-- What is known of a log of the shelf, as of the order log of a call.
module _ {F : Type 0} (shelves : Shelf F) (writes : List ℕ → List ℕ) (reads : List ℕ → List (List ℕ) → Option BadMessage → Type 0) (old new : F) (name : List ℕ) (sink_old sink_new : SinkState) where
  abbrev r : Reading
  r = desk_reading shelves old new

  front-read : (front : List ℕ) (bodies : List (List ℕ)) → ReadsFrontOf shelves reads Orders name old new front bodies → ReadsFront r (step_of r Orders name) front
  front-read front bodies of = record { taken = of.taken; known = of.known }

  pub writes-day : (result : Result DayEnd PlainFault) → TakesUpTo shelves Orders name longest_read old new result → IfOk result (WritesUpToEnd shelves writes reads Orders name longest_read old new sink_old sink_new)
      → IfErr result (StopsWriting shelves writes reads Orders name old new sink_old sink_new) → WritesDay r writes reads name sink_old sink_new result
  writes-day (Ok end) slot is stops = record {
    bytes = is.bytes;
    bodies = is.bodies;
    read = record { once = slot.once; started = slot.started; at_end = slot.at_end; within = is.within; taken = is.count; given = is.given; known = is.whole };
    begins = is.begins;
    wrote = record { wrote = is.wrote; quiet = is.quiet };
    ends = is.holding;
  }
  writes-day (Err (plain.Log why)) slot ends is = record {
    cause = stop-cause shelves old new Orders name why slot;
    early = record { front = is.front; bodies = is.bodies; read = front-read is.front is.bodies is.of; begins = is.of.begins; wrote = record { wrote = is.wrote; quiet = is.quiet } };
  }
  writes-day (Err plain.Sink) slot ends is = record {
    front = is.front;
    bodies = is.bodies;
    read = front-read is.front is.bodies is.of;
    begins = is.of.begins;
    wrote = record { part = is.part; cause = is.cause };
  }

  pub takes-later : (result : Result DayEnd PlainFault) → TakesUpTo shelves Orders name longest_read old new result → (shelves.slot old Orders).faults ≤ (shelves.slot new Orders).faults
  takes-later (Ok end) slot = slot.later
  takes-later (Err (plain.Log why)) slot = slot.later
  takes-later (Err plain.Sink) slot = slot.later

  pub writes-within : (result : Result DayEnd PlainFault) → TouchesOnly r Orders → TakesUpTo shelves Orders name longest_read old new result → IfOk result (WritesUpToEnd shelves writes reads Orders name longest_read old new sink_old sink_new)
      → WritesWithin r result
  writes-within (Ok end) only slot is = λ begins.
      first-ends r (subst (λ (n : ℕ). n ≤ longest_read) is.count is.within) (subst (λ (s : Slot). s.taken ≤ r.limit) (sym only.other) (begins Trades))
  writes-within (Err (plain.Log why)) only slot is = first_stop r (stop_of_take Orders why) only (stop-within shelves old new Orders name why slot)
  writes-within (Err plain.Sink) only slot is = tt

-- where memory ran out before the day was started, nothing was written
nothing-first : (log : Option (List ℕ)) → IfSome log (λ xs. StartsWith xs [])
nothing-first None = tt
nothing-first (Some xs) = refl

pub nothing-written : (r : Reading) (writes : List ℕ → List ℕ) (reads : List ℕ → List (List ℕ) → Option BadMessage → Type 0) (name : List ℕ) (sink : SinkState) → WritesDay r writes reads name sink sink (Err (plain.Log take.Memory))
nothing-written r writes reads name sink = record {
  cause = tt;
  early = record {
    front = [];
    bodies = [];
    read = record { taken = omega arith; known = λ tells. nothing-first (r.log_of Orders name) };
    begins = λ more others bad is. (others, refl);
    wrote = record { wrote = Appends-nil sink.wrote; quiet = refl };
  };
}

module _ (r : Reading) (day : List ℕ) (dress : DayDress) (only : TouchesOnly r Orders) where
  abbrev command : Command
  command = desk_command_of (Early (Plain day dress))

  abbrev last : LogStep
  last = step_of r Orders day

  day-ends : (which : Which) → r.after which ≡ with_slot r.before Orders (r.after Orders) which
  day-ends Orders = refl
  day-ends Trades = only.other

  abbrev reaches : ReadsThenStarts r command last
  reaches = record { steps = []; logs = []; lead = (record { at = refl; later = only.later }, day-ends); read = refl; next = refl }

  -- what was written of a front begins every answer
  begins-answer : (front : List ℕ) (bodies : List (List ℕ)) → BeginsReadings (day_reading dress) front bodies → BeginsEveryAnswer command [] front (flat_map (day_writes dress) bodies)
  begins-answer front bodies begins more later status answer is =
      let rest = begins more is.items is.bad is.read in
      let text : answer ≡ flat_map (day_writes dress) bodies ++ (flat_map (day_writes dress) rest.0 ++ bad_line is.bad) =
      is.answer.text_is ∙ ap (λ (t : List ℕ). t ++ bad_line is.bad) (ap (flat_map (day_writes dress)) rest.1 ∙ flat_map-append (day_writes dress) bodies rest.0)
      ∙ append_assoc (flat_map (day_writes dress) bodies) (flat_map (day_writes dress) rest.0) (bad_line is.bad) in
      subst (λ (t : List ℕ). StartsWith t (flat_map (day_writes dress) bodies)) (sym text) (take_at (flat_map (day_writes dress) bodies) (flat_map (day_writes dress) rest.0 ++ bad_line is.bad) (length (flat_map (day_writes dress) bodies)) refl)

  early-at : (front : List ℕ) (bodies : List (List ℕ)) → ReadsFront r last front → BeginsReadings (day_reading dress) front bodies → IsEarlyAt r command [] last (flat_map (day_writes dress) bodies)
  early-at front bodies read begins = record { front = front; read = read; begins = begins-answer front bodies begins }

  early-text : (front : List ℕ) (bodies : List (List ℕ)) → ReadsFront r last front → BeginsReadings (day_reading dress) front bodies → IsEarlyText r command (flat_map (day_writes dress) bodies)
  early-text front bodies read begins = inl (record { last = last; reads = reaches; early = early-at front bodies read begins })

  whole-front : (bytes : List ℕ) → IsRead r last bytes → ReadsFront r last bytes
  whole-front bytes read = record { taken = by-equal (length bytes) last.after.taken read.taken; known = λ tells. subst (λ (log : Option (List ℕ)). IfSome log (λ xs. StartsWith xs bytes)) (sym (read.known tells)) (take-all bytes) }
    where
      by-equal : (a b : ℕ) → a ≡ b → a ≤ b
      by-equal a b same = omega (arith, same)

      take-all : (xs : List ℕ) → take (length xs) xs ≡ xs
      take-all [] = refl
      take-all (x ∷ xs) = ap (λ (t : List ℕ). x ∷ t) (take-all xs)

  -- the answer to a day that was read
  by-bad : (bad : Option BadMessage) (text : List ℕ) → IsAnswerToReadLogs r command (plain_status bad) text → ReadingDecides r command (plain_status bad) text
  by-bad None text is = is
  by-bad (Some bad) text is = is

  module _ (sink_old sink_new : SinkState) where
    module _ (end : DayEnd) (is : WritesToEnd r (day_writes dress) (day_reading dress) day sink_old sink_new end) where
      rest-of : (status : Status) (text : List ℕ) → IsAnswerWith (plain_status end.bad) (end.text.items ++ bad_line end.bad) status text → ReadingDecides r command status (flat_map (day_writes dress) is.bodies ++ text)
      rest-of status text answer =
          let whole : flat_map (day_writes dress) is.bodies ++ text ≡ (flat_map (day_writes dress) is.bodies ++ end.text.items) ++ bad_line end.bad =
          ap (λ (t : List ℕ). flat_map (day_writes dress) is.bodies ++ t) answer.text_is ∙ sym (append_assoc (flat_map (day_writes dress) is.bodies) end.text.items (bad_line end.bad)) in
          let plain : flat_map (day_writes dress) is.bodies ++ end.text.items ≡ flat_map (day_writes dress) (is.bodies ++ is.ends.more) =
          ap (λ (t : List ℕ). flat_map (day_writes dress) is.bodies ++ t) is.ends.text_is ∙ sym (flat_map-append (day_writes dress) is.bodies is.ends.more) in
          let says : IsPlainAnswer (day_writes dress) (day_reading dress is.bytes) (plain_status end.bad) (flat_map (day_writes dress) is.bodies ++ text) = record {
            items = is.bodies ++ is.ends.more;
            bad = end.bad;
            read = is.ends.read;
            answer = record { status_is = refl; text_is = whole ∙ ap (λ (t : List ℕ). t ++ bad_line end.bad) plain };
          } in
          subst (λ (s : Status). ReadingDecides r command s (flat_map (day_writes dress) is.bodies ++ text)) (sym answer.status_is)
          (by-bad end.bad (flat_map (day_writes dress) is.bodies ++ text) (record {
            steps = last ∷ [];
            logs = is.bytes ∷ [];
            lead = reaches.lead;
            read = (is.bytes, record { next = refl; read = is.read }, refl);
            all = refl;
            answer = says;
          }))

      pub rest-at-end : (result : Result Answer Stop) → MatchResult result (IsAnswerOfKind (IsAnswerWith (plain_status end.bad) (end.text.items ++ bad_line end.bad))) (λ why. why ≡ stop.Memory) → DecidesRest r command (flat_map (day_writes dress) is.bodies) result
      rest-at-end (Ok answer) says = rest-of answer.status answer.text.items says
      rest-at-end (Err why) says = subst (RestStops r command (flat_map (day_writes dress) is.bodies)) (sym says) (early-text is.bytes is.bodies (whole-front is.bytes is.read) is.begins)

      pub end-written : SinkStays sink_old sink_new → HasWritten sink_old sink_new (flat_map (day_writes dress) is.bodies)
      end-written stays = record { stays = stays; wrote = is.wrote.wrote }

    module _ (fault : TakeFault) (is : WritesToStop r (day_writes dress) (day_reading dress) day sink_old sink_new (IsLogStop r Orders day (stop_of_take Orders fault))) where
      pub stop-written : SinkStays sink_old sink_new → HasWritten sink_old sink_new (flat_map (day_writes dress) is.early.bodies)
      stop-written stays = record { stays = stays; wrote = is.early.wrote.wrote }

    pub rest-at-stop : (fault : TakeFault) (is : WritesToStop r (day_writes dress) (day_reading dress) day sink_old sink_new (IsLogStop r Orders day (stop_of_take Orders fault))) → RestStops r command (flat_map (day_writes dress) is.early.bodies) (stop_of_take Orders fault)
    rest-at-stop take.Fault is = record {
      last = last;
      reads = reaches;
      cause = is.cause.1;
      text_is = record { early = flat_map (day_writes dress) is.early.bodies; is_early = early-at is.early.front is.early.bodies is.early.read is.early.begins; text_is = refl };
    }
    rest-at-stop take.TooLong is = record {
      last = last;
      reads = reaches;
      cause = is.cause.1;
      text_is = record { early = flat_map (day_writes dress) is.early.bodies; is_early = early-at is.early.front is.early.bodies is.early.read is.early.begins; text_is = refl };
    }
    rest-at-stop take.Memory is = early-text is.early.front is.early.bodies is.early.read is.early.begins

    pub sink-failed : WritesOfFront r (day_writes dress) (day_reading dress) day (FailsAt sink_old sink_new) → AnswersCommand r command sink_old sink_new status.WriteFault
    sink-failed is = record {
      text = flat_map (day_writes dress) is.bodies;
      is = inr (early-text is.front is.bodies is.read is.begins);
      wrote = is.wrote.part;
      cause = is.wrote.cause;
    }

-- where the order log alone was touched
pub first_later : (r : Reading) → TouchesOnly r Orders → FaultsNeverFall r
first_later r only Orders = only.later
first_later r only Trades = subst (λ (s : Slot). (r.before Trades).faults ≤ s.faults) (sym only.other) (omega arith)

-- a word in the place of SOH may stand for it
three : (a b c other same : Bool) → c ≡ other → (a && b && c) ≡ true → (a && b && (other || same)) ≡ true
three true true true other same e is = subst (λ (x : Bool). (x || same) ≡ true) e refl
three true true false other same e is = cc
three true false c other same e is = cc
three false b c other same e is = cc

graphic : (text : List ℕ) → list_all is_ascii_graphic text ≡ list_all is_graphic text
graphic text = refl

pub soh-fits : (word : Option (List ℕ)) (bad : BadMessages) → HasSohWord (OnLines word bad) → IsTrue (is_soh_text (text_for_soh word))
soh-fits None bad is = refl
soh-fits (Some text) bad is =
    three (nat_le 1 (length text)) (nat_le (length text) 5) (list_all is_ascii_graphic text) (list_all is_graphic text) (starts_with nat_eq (soh ∷ []) text) (graphic text) is

-- what is said of both slots where the sink failed, or the day ended
pub ended-within : (r : Reading) (end : DayEnd) (result : Result Answer Stop) → WritesWithin r (Ok end) → StaysWithin r result
ended-within r end result within begins = inr (within begins)

pub stays-on : (a b c : SinkState) → SinkStays a b → SinkStays b c → SinkStays a c
stays-on a b c first second =
    let early = first.later in
    let late = second.later in
    record { tells = second.tells ∙ first.tells; sure = second.sure ∙ first.sure; later = omega (arith, early, late) }

-- Where the day did not come to its end, whole messages were written.
module _ (r : Reading) (writes : List ℕ → List ℕ) (reads : List ℕ → List (List ℕ) → Option BadMessage → Type 0) (name : List ℕ) (old mid new : SinkState) where
  -- the line of a stop behind them
  abbrev Behind : List ℕ → Type 0
  Behind line = WritesOfFront r writes reads name (λ text. Appends old.wrote new.wrote (text ++ line))

  behind : (line : List ℕ) → Appends mid.wrote new.wrote line → WritesOfFront r writes reads name (WritesUnfailing old mid) → Behind line
  behind line then early = record {
    front = early.front;
    bodies = early.bodies;
    read = early.read;
    begins = early.begins;
    wrote = Appends-trans old.wrote mid.wrote new.wrote (flat_map writes early.bodies) line early.wrote.wrote then;
  }

  -- nothing behind them
  same-sink : new ≡ mid → WritesOfFront r writes reads name (WritesUnfailing old mid) → WritesOfFront r writes reads name (WritesUnfailing old new)
  same-sink same early = subst (λ (s : SinkState). WritesOfFront r writes reads name (WritesUnfailing old s)) (sym same) early

  fault-messages : (result : Status) → result ≡ status.WriteFault → WritesMessages r writes reads name old new result
  fault-messages result is = subst (WritesMessages r writes reads name old new) (sym is) tt

  line-messages : (the_status : Status) (line : List ℕ) (result : Status) → (Appends mid.wrote new.wrote line → WritesMessages r writes reads name old new the_status) → AnswersText mid new the_status line result → WritesMessages r writes reads name old new result
  line-messages the_status line result gives (inl all) = subst (WritesMessages r writes reads name old new) (sym all.status_is) (gives all.wrote)
  line-messages the_status line result gives (inr fault) = fault-messages result fault.status_is

  stop-messages : (early : WritesOfFront r writes reads name (WritesUnfailing old mid)) (fault : TakeFault) (result : Status) → AnswersStop mid new (stop_of_take Orders fault) result → WritesMessages r writes reads name old new result
  stop-messages early take.Fault result answers = line-messages status.ReadFault (read_fault_line Orders) result (λ wrote. behind (read_fault_line Orders) wrote early) answers
  stop-messages early take.TooLong result answers = line-messages status.TooLong (too_long_line Orders) result (λ wrote. behind (too_long_line Orders) wrote early) answers
  stop-messages early take.Memory result answers = subst (WritesMessages r writes reads name old new) (sym answers.status_is) (same-sink answers.nothing early)

  pub stopped-messages : (fault : TakeFault) (stops : Type 0) (result : Status) → WritesToStop r writes reads name old mid stops → AnswersStop mid new (stop_of_take Orders fault) result → WritesMessages r writes reads name old new result
  stopped-messages fault stops result is answers = stop-messages is.early fault result answers

  -- the end of the day, with or without a bad message
  by-end : (bad : Option BadMessage) → WritesMessages r writes reads name old new (plain_status bad)
  by-end None = tt
  by-end (Some bad) = tt

  end-messages : (end : DayEnd) (is : WritesToEnd r writes reads name old mid end) (front : ReadsFront r (step_of r Orders name) is.bytes) (decided : Result Answer Stop) (result : Status)
      → MatchResult decided (IsAnswerOfKind (IsAnswerWith (plain_status end.bad) (end.text.items ++ bad_line end.bad))) (λ why. why ≡ stop.Memory)
      → MatchResult decided (λ answer. AnswersText mid new answer.status answer.text.items result) (λ why. AnswersStop mid new why result) → WritesMessages r writes reads name old new result
  end-messages end is front (Ok answer) result says answers =
      line-messages answer.status answer.text.items result (λ wrote. subst (WritesMessages r writes reads name old new) (sym says.status_is) (by-end end.bad)) answers
  end-messages end is front (Err why) result says answers =
      stop-messages (record { front = is.bytes; bodies = is.bodies; read = front; begins = is.begins; wrote = is.wrote }) take.Memory result (subst (λ (w : Stop). AnswersStop mid new w result) says answers)

-- the same of a day that was read to its end
pub ended-messages : (r : Reading) (day : List ℕ) (dress : DayDress) (only : TouchesOnly r Orders) (old mid new : SinkState) (end : DayEnd) (is : WritesToEnd r (day_writes dress) (day_reading dress) day old mid end) (decided : Result Answer Stop) (result : Status)
    → MatchResult decided (IsAnswerOfKind (IsAnswerWith (plain_status end.bad) (end.text.items ++ bad_line end.bad))) (λ why. why ≡ stop.Memory)
    → MatchResult decided (λ answer. AnswersText mid new answer.status answer.text.items result) (λ why. AnswersStop mid new why result) → WritesMessages r (day_writes dress) (day_reading dress) day old new result
ended-messages r day dress only old mid new end is decided result says answers =
    end-messages r (day_writes dress) (day_reading dress) day old mid new end is (whole-front r day dress only is.bytes is.read) decided result says answers

-- where memory ran out before any word was answered
pub words-messages : (request : DeskRequest) (r : Reading) (sink : SinkState) → WritesMessagesOf request r sink sink status.Memory
words-messages (Early (Plain day dress)) r sink = (nothing-written r (day_writes dress) (day_reading dress) day sink).early
words-messages (Early (GeneratedOrders start count form)) r sink = tt
words-messages (Whole request) r sink = tt
