-- What is read and written of a day where each line is read alone.
use Rattle.std.proofs.Common.{◌≡◌, ℕ, ◌+◌, ◌≤◌, Bool, not, ◌==◌, ◌&&◌, Option, Some, None, List, [], ◌∷◌, ◌++◌, length, map, take, refl, sym, subst, ap, ◌∙◌, append_assoc, arith}
use Rattle.std.specs.Prelude.{get_or}
use Rattle.std.specs.List.{flat_map, list_all}
use Rattle.std.proofs.lemmas.Bool.{eqb-true}
use Rattle.std.proofs.lemmas.Grind.{flat_map-append}
use Rattle.std.proofs.lemmas.List.{append-nil, length-append, map-append, take_more}
use Rattle.fix_days.specs.declared.faults.BadMessage.{BadMessage}
use Rattle.memchr.specs.Find.{is_byte, NoneBefore, Nowhere, Passes}
use Rattle.fix_days.specs.Fronts.{BeginsReadings}
use Rattle.fix_days.specs.Runs.{stands_alone}
use Rattle.fix_days.specs.Lines.{HasNoLineEnd, IsLineReading}
use Rattle.fix_days.specs.LinesAlone.{DayMessage, lines_of, LinesSay, messages_of_line}
use Rattle.fix_days.specs.LinesAlone.DayMessage.{Bad, Good}
use Rattle.fix_days.proofs.AloneLemmas.{lines-behind, lines-have-some, lines-one}
use Rattle.fix_days.proofs.LineFrontLemmas.{lines-begins}
use Rattle.fix_days.proofs.LineLemmas.{soh-line, soh-some}
use Rattle.fix_days.proofs.RunLemmas.{run-of-one}
use Rattle.plain_logs.specs.declared.by_lines.DayByLines.{DayByLines}
use Rattle.plain_logs.specs.declared.day_ends.DayEnd.{DayEnd}
use Rattle.plain_logs.specs.declared.day_ends.DayLineEnd.{DayLineEnd}
use Rattle.plain_logs.specs.AloneFeeds.{EndsAlone, HasRoomAlone, passed_message, ReadsPart}
use Rattle.plain_logs.specs.DayFeeds.{EndsReading, HasRoomForPiece, ReadsPiece}
use Rattle.plain_logs.specs.LinesAlone.{IsReadAsItems}
use Rattle.plain_logs.specs.Writers.{AppendsEnd, AppendsGood, EndsLastLine, HasReadItems, TakesBytes}

-- the messages of a line begin with those whose bodies are read first
line-front : (count offset : ℕ) (bodies more : List (List ℕ)) (bad : Option BadMessage) → (rest : List DayMessage) × (messages_of_line count offset (bodies ++ more) bad ≡ map Good bodies ++ rest)
line-front count offset bodies more None = (map Good more, map-append Good bodies more)
line-front count offset bodies more (Some bad) =
    let last = Bad (count + bad.place) (offset + bad.offset) bad.fault ∷ [] in
    (map Good more ++ last, ap (λ (t : List DayMessage). t ++ last) (map-append Good bodies more) ∙ append_assoc (map Good bodies) (map Good more) last)

later-front : (soh : List ℕ) (count offset : ℕ) (part more : List ℕ) (bodies : List (List ℕ)) (later : List DayMessage) → HasNoLineEnd part → BeginsReadings (IsLineReading soh) part bodies → LinesSay soh count offset (lines_of (part ++ more)) later
    → (rest : List DayMessage) × (later ≡ map Good bodies ++ rest)
later-front soh count offset part more bodies later none begins says =
    let first = lines-behind part more none in
    let is = subst (λ (ls : List (List ℕ)). LinesSay soh count offset ls later) first.are says in
    let line = is.2 in
    let read = begins first.line line.bodies line.bad line.read in
    let front = line-front count offset bodies read.0 line.bad in
    let whole : is.0 ≡ map Good bodies ++ front.0 = line.are ∙ ap (λ (bs : List (List ℕ)). messages_of_line count offset bs line.bad) read.1 ∙ front.1 in
    (front.0 ++ is.1, is.4 ∙ ap (λ (t : List DayMessage). t ++ is.1) whole ∙ append_assoc (map Good bodies) front.0 is.1)

-- where a line ends
alone-runs : (text : List ℕ) → list_all (stands_alone (10 ∷ [])) text ≡ list_all (λ byte. not (byte == 10)) text
alone-runs [] = refl
alone-runs (byte ∷ rest) = ap (λ (b : Bool). not (byte == 10) && b) (alone-runs rest)

pub no-end : (text : List ℕ) → Nowhere (Passes (is_byte 10) text) 0 (length text) → HasNoLineEnd text
no-end text none = sym (alone-runs text) ∙ run-of-one (10 ∷ []) text None refl none

pub no-end-before : (text : List ℕ) (k : ℕ) → NoneBefore (Passes (is_byte 10) text) 0 (length text) k × Passes (is_byte 10) text k → HasNoLineEnd (take k text)
no-end-before text k found = let run = run-of-one (10 ∷ []) text (Some k) refl found in sym (alone-runs (take k text)) ∙ run.run

pub ends-at : (text : List ℕ) (k : ℕ) → NoneBefore (Passes (is_byte 10) text) 0 (length text) k × Passes (is_byte 10) text k → take (k + 1) text ≡ take k text ++ 10 ∷ []
ends-at text k found =
    let byte : get_or text k 0 ≡ 10 = eqb-true (get_or text k 0) 10 found.1 in
    take_more text k 0 found.0.high ∙ ap (λ (b : ℕ). take k text ++ b ∷ []) byte

module _ (writes : List ℕ → List ℕ) (items_of : DayMessage → List (List ℕ)) where
  items-more : (a b : List DayMessage) → flat_map items_of (a ++ b) ≡ flat_map items_of a ++ flat_map items_of b
  items-more a b = flat_map-append items_of a b

  good-more : (messages : List DayMessage) (bodies more : List (List ℕ)) → flat_map items_of (messages ++ map Good bodies) ++ flat_map items_of (map Good more) ≡ flat_map items_of (messages ++ map Good (bodies ++ more))
  good-more messages bodies more =
      sym (items-more (messages ++ map Good bodies) (map Good more))
      ∙ ap (flat_map items_of) (append_assoc messages (map Good bodies) (map Good more) ∙ ap (λ (t : List DayMessage). messages ++ t) (sym (map-append Good bodies more)))

  module _ {T S : Type 0} (soh : List ℕ) where
    -- a part of a line was taken
    pub part-taken : (old new : DayByLines T S) (part text out_old out_new : List ℕ) → ReadsPart soh old.day new.day part text → AppendsGood writes items_of text out_old out_new → TakesBytes writes (HasReadItems items_of soh) old new part out_old out_new
    part-taken old new part text out_old out_new reads wrote day items h =
        let more = reads day h.messages h.bodies h.read in
        record {
          more = flat_map items_of (map Good more.more);
          read = record {
            messages = h.messages;
            bodies = h.bodies ++ more.more;
            read = more.read;
            are = ap (λ (t : List (List ℕ)). t ++ flat_map items_of (map Good more.more)) h.are ∙ good-more h.messages h.bodies more.more;
          };
          text_is = wrote more.more more.text_is;
        }

    -- a line has ended
    pub line-ended : (old new : DayByLines T S) (end : DayLineEnd) (out_old out_mid out_new : List ℕ) → EndsAlone soh old.day new.day end → AppendsGood writes items_of end.text.items out_old out_mid → out_new ≡ out_mid ++ flat_map writes (flat_map items_of (passed_message end.bad))
        → EndsLastLine writes items_of soh old new out_old out_new
    line-ended old new end out_old out_mid out_new ends wrote passed day items h =
        let line = ends day h.messages h.bodies h.read in
        let good = flat_map items_of (map Good line.more) in
        let last = flat_map items_of (passed_message end.bad) in
        record {
          more = good ++ last;
          messages = h.messages ++ (map Good (h.bodies ++ line.more) ++ passed_message end.bad);
          read = line.read;
          whole = line.whole;
          are = ap (λ (t : List (List ℕ)). t ++ (good ++ last)) h.are ∙ sym (append_assoc (flat_map items_of (h.messages ++ map Good h.bodies)) good last) ∙ ap (λ (t : List (List ℕ)). t ++ last) (good-more h.messages h.bodies line.more)
              ∙ sym (items-more (h.messages ++ map Good (h.bodies ++ line.more)) (passed_message end.bad))
              ∙ ap (flat_map items_of) (append_assoc h.messages (map Good (h.bodies ++ line.more)) (passed_message end.bad));
          text_is = passed ∙ ap (λ (t : List ℕ). t ++ flat_map writes last) (wrote line.more line.text_is) ∙ append_assoc out_old (flat_map writes good) (flat_map writes last) ∙ ap (λ (t : List ℕ). out_old ++ t) (sym (flat_map-append writes good last));
        }

    -- and an LF is behind it
    pub line-taken : (old new : DayByLines T S) (out_old out_new : List ℕ) → EndsLastLine writes items_of soh old new out_old out_new → TakesBytes writes (HasReadItems items_of soh) old new (10 ∷ []) out_old out_new
    line-taken old new out_old out_new ends day items h =
        let line = ends day items h in
        record {
          more = line.more;
          read = record { messages = line.messages; bodies = []; read = line.read; are = line.are ∙ ap (flat_map items_of) (sym (append-nil line.messages)) };
          text_is = line.text_is;
        }

    pub room-part : (feed : DayByLines T S) (bytes : List ℕ) (more : ℕ) → HasRoomForPiece (HasReadItems items_of soh) feed bytes → more ≤ length bytes → HasRoomAlone soh feed.day more
    room-part feed bytes more room less =
        let within = room.room in record { day = room.day; messages = room.read.messages; bodies = room.read.bodies; read = room.read.read; room = omega (arith, within, less) }

    -- the items so far begin those of each longer day
    pub items-begin : (last_items : List DayMessage → List (List ℕ)) (feed : DayByLines T S) (day : List ℕ) (items : List (List ℕ)) → HasReadItems items_of soh feed day items → BeginsReadings (IsReadAsItems items_of last_items soh) day items
    items-begin last_items feed day items h more others (Some bad) reading = absurd reading
    items-begin last_items feed day items h more others None reading =
        let r = h.read in
        let may = r.read.is in
        let some = soh-some soh may in
        let later = lines-have-some soh some (soh-line soh may) feed.day.count feed.day.before (lines_of (r.part ++ more)) in
        let all = r.said more later.0 later.1 in
        let same = lines-one soh some 0 0 (lines_of (day ++ more)) reading.messages (h.messages ++ later.0) reading.read all in
        let front = later-front soh feed.day.count feed.day.before r.part more h.bodies later.0 r.one_line (lines-begins soh some feed.day.line r.part h.bodies r.read.read) later.1 in
        let last = last_items reading.messages in
        let whole : reading.messages ≡ (h.messages ++ map Good h.bodies) ++ front.0 = same ∙ ap (λ (t : List DayMessage). h.messages ++ t) front.1 ∙ sym (append_assoc h.messages (map Good h.bodies) front.0) in (
          flat_map items_of front.0 ++ last,
          reading.are ∙ ap (λ (t : List DayMessage). flat_map items_of t ++ last) whole ∙ ap (λ (t : List (List ℕ)). t ++ last) (items-more (h.messages ++ map Good h.bodies) front.0)
              ∙ append_assoc (flat_map items_of (h.messages ++ map Good h.bodies)) (flat_map items_of front.0) last ∙ ap (λ (t : List (List ℕ)). t ++ (flat_map items_of front.0 ++ last)) (sym h.are),
        )

    -- a piece was taken
    pub piece-read : (last_items : List DayMessage → List (List ℕ)) (old new : DayByLines T S) (piece out_old text : List ℕ) → out_old ≡ [] → TakesBytes writes (HasReadItems items_of soh) old new piece out_old text → ReadsPiece writes (IsReadAsItems items_of last_items soh) (HasReadItems items_of soh) old new piece text
    piece-read last_items old new piece out_old text none takes day items h =
        let more = takes day items h in
        record {
          more = more.more;
          read = more.read;
          begins = items-begin last_items new (day ++ piece) (items ++ more.more) more.read;
          text_is = more.text_is ∙ ap (λ (t : List ℕ). t ++ flat_map writes more.more) none;
        }

    -- the day has ended
    pub day-ended : (last_items : List DayMessage → List (List ℕ)) (old new : DayByLines T S) (out_old out_mid : List ℕ) (end : DayEnd) → out_old ≡ [] → end.bad ≡ None → EndsLastLine writes items_of soh old new out_old out_mid → AppendsEnd writes last_items new.day.bad new.day.count out_mid end.text.items
        → (day : List ℕ) (items : List (List ℕ)) → HasReadItems items_of soh old day items → EndsReading writes (IsReadAsItems items_of last_items soh) day items end
    day-ended last_items old new out_old out_mid end none good ends wrote day items h =
        let line = ends day items h in
        let last = last_items line.messages in
        let read : IsReadAsItems items_of last_items soh day (items ++ (line.more ++ last)) None = record { messages = line.messages; read = line.whole; are = sym (append_assoc items line.more last) ∙ ap (λ (t : List (List ℕ)). t ++ last) line.are } in
        record {
          more = line.more ++ last;
          read = subst (IsReadAsItems items_of last_items soh day (items ++ (line.more ++ last))) (sym good) read;
          text_is = wrote line.messages line.read.counted_bad line.read.counted ∙ ap (λ (t : List ℕ). t ++ flat_map writes last) (line.text_is ∙ ap (λ (t : List ℕ). t ++ flat_map writes line.more) none) ∙ sym (flat_map-append writes line.more last);
        }

-- bytes were taken, and then more
pub takes-on : {D : Type 0} (writes : List ℕ → List ℕ) (has_read : D → List ℕ → List (List ℕ) → Type 0) (a b c : D) (first later bytes first_out mid_out last_out : List ℕ) → bytes ≡ first ++ later → TakesBytes writes has_read a b first first_out mid_out
    → TakesBytes writes has_read b c later mid_out last_out → TakesBytes writes has_read a c bytes first_out last_out
takes-on writes has_read a b c first later bytes first_out mid_out last_out whole before after day items h =
    let one = before day items h in
    let two = after (day ++ first) (items ++ one.more) one.read in
    record {
      more = one.more ++ two.more;
      read = subst (λ (t : List ℕ). has_read c t (items ++ (one.more ++ two.more))) (append_assoc day first later ∙ ap (λ (t : List ℕ). day ++ t) (sym whole)) (subst (has_read c ((day ++ first) ++ later)) (append_assoc items one.more two.more) two.read);
      text_is = two.text_is ∙ ap (λ (t : List ℕ). t ++ flat_map writes two.more) one.text_is ∙ append_assoc first_out (flat_map writes one.more) (flat_map writes two.more) ∙ ap (λ (t : List ℕ). first_out ++ t) (sym (flat_map-append writes one.more two.more));
    }

pub takes-none : {D : Type 0} (writes : List ℕ → List ℕ) (has_read : D → List ℕ → List (List ℕ) → Type 0) (feed : D) (out : List ℕ) → TakesBytes writes has_read feed feed [] out out
takes-none writes has_read feed out day items h = record {
  more = [];
  read = subst (λ (t : List ℕ). has_read feed t (items ++ [])) (sym (append-nil day)) (subst (has_read feed day) (sym (append-nil items)) h);
  text_is = sym (append-nil out);
}

-- there is room for what is left of a piece
pub room-left : {D : Type 0} (writes : List ℕ → List ℕ) (has_read : D → List ℕ → List (List ℕ) → Type 0) (old new : D) (first later bytes old_out new_out : List ℕ) → bytes ≡ first ++ later → HasRoomForPiece has_read old bytes → TakesBytes writes has_read old new first old_out new_out
    → HasRoomForPiece has_read new later
room-left writes has_read old new first later bytes old_out new_out whole room takes =
    let more = takes room.day room.bodies room.read in
    let within = room.room in
    let size = ap length whole ∙ length-append first later in
    let longer = length-append room.day first in
    record { day = room.day ++ first; bodies = room.bodies ++ more.more; read = more.read; room = omega (arith, within, size, longer) }
