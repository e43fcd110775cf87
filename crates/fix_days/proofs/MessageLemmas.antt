-- What messages stand for through their steps.
use Rattle.std.proofs.Common.{◌≡◌, ◌≢◌, ℕ, zero, suc, ◌+◌, ◌*◌, ◌<◌, ◌≤◌, ◌^◌, Bool, true, false, Option, Some, None, List, [], ◌∷◌, ◌++◌, length, take, drop, refl, sym, subst, ap, ◌∙◌, append_assoc, arith}
use Rattle.std.specs.Prelude.{is_some}
use Rattle.std.specs.List.{list_all, slice_range}
use Rattle.std.proofs.lemmas.List.{append-nil, drop_at, drop-drop, length-append, length-drop, length-take-le, map-append, take-append-drop}
use Rattle.log_source.specs.Feeds.{HasRoom}
use Rattle.log_source.specs.Handing.{HandsOnMore}
use Rattle.fix_framing.specs.Breaks.{is_line_end_byte, after_breaks}
use Rattle.fix_framing.specs.Headers.{any_version}
use Rattle.fix_framing.specs.Frames.{body_of_with, frame_fault_with}
use Rattle.fix_framing.specs.Framing.{bytes_held, bytes_unframed, count_framed, next_text, IsFramerWith, FeedsPiece, GivesFrame, IsNextOffset, RefusesFrame, Waits}
use Rattle.fix_framing.specs.declared.framer.Framer.{Framer}
use Rattle.fix_framing.specs.declared.headers.AnyVersion.{AnyVersion}
use Rattle.fix_framing.specs.declared.frames.FrameFault.{FrameFault}
use Rattle.fix_framing.specs.declared.frames.FrameFault.TheVariants.{Truncated}
use Rattle.fix_framing.proofs.MessageLemmas.{IsFrameWith-body_of}
use Rattle.fix_framing.proofs.FramerLemmas.{breaks-cut, IsFramed-breaks, unfinished-cut}
use Rattle.fix_days.specs.declared.faults.BadMessage.{BadMessage}
use Rattle.fix_days.specs.declared.messages.Messages.{Messages}
use Rattle.fix_days.specs.Framed.{bodies_of, IsBadText, IsTextReading}
use Rattle.fix_days.specs.Answers.{HasReadBodies}
use Rattle.fix_days.specs.Messages.{AreMessageFields, HasNoBadMessage, HasReadMessages, HasReadOf, HasText, IsMessagesOf, IsMessagesWithinLimit, StopsAtBadMessage, TakesMessage, TakesNoMessage}
use Rattle.fix_days.proofs.TextLemmas.{any-headers, begins-past, framed-nine, split-breaks}

-- the bytes fed are those that are framed and those that aren't
pub fed-cut : (framer : Framer AnyVersion) (text : List ℕ) (frames : List (List ℕ)) → IsFramerWith any_version framer text frames → text ≡ take (count_framed framer) text ++ bytes_unframed framer
fed-cut framer text frames stands =
    let rest : drop (framer.base + framer.next) text ≡ bytes_unframed framer =
    sym (drop-drop framer.next framer.base text) ∙ ap (λ (t : List ℕ). drop framer.next (drop framer.base t)) stands.whole
    ∙ ap (drop framer.next) (drop_at stands.before (bytes_held framer) framer.base stands.dropped) in
    sym (take-append-drop (count_framed framer) text) ∙ ap (λ (t : List ℕ). take (count_framed framer) text ++ t) rest

-- the bad message at this offset, after these messages
abbrev bad_after : ℕ → List (List ℕ) → ℕ → FrameFault → BadMessage
bad_after start frames at fault = record { place = length frames + 1; offset = start + at; fault = fault }

pub length-bodies : (frames : List (List ℕ)) → length (bodies_of frames) ≡ length frames
length-bodies [] = refl
length-bodies (frame ∷ frames) = let h = length-bodies frames in omega (arith, h)

-- no message begins at the next place
pub bad-frame : (start : ℕ) (framer : Framer AnyVersion) (at : ℕ) (fault : FrameFault) (more : List ℕ) → list_all is_line_end_byte (bytes_unframed framer) ≡ false → IsNextOffset any_version framer at
    → frame_fault_with any_version (next_text framer ++ more) ≡ Some fault → (text : List ℕ) (frames : List (List ℕ)) → IsFramerWith any_version framer text frames
    → IsBadText start (text ++ more) (bodies_of frames) (bad_after start frames at fault)
bad-frame start framer at fault more some place fails text frames stands =
    let split = split-breaks (bytes_unframed framer) in
    let front = take (count_framed framer) text in
    let cut : text ++ more ≡ (front ++ split.gap) ++ (next_text framer ++ more) =
    ap (λ (t : List ℕ). t ++ more) (fed-cut framer text frames stands ∙ ap (λ (t : List ℕ). front ++ t) split.whole ∙ sym (append_assoc front split.gap (next_text framer)))
    ∙ append_assoc (front ++ split.gap) (next_text framer) more in
    let high : length text ≡ framer.base + length (bytes_held framer) =
    ap length stands.whole ∙ length-append stands.before (bytes_held framer) ∙ ap (λ (k : ℕ). k + length (bytes_held framer)) stands.dropped in
    let left = length-drop framer.next (bytes_held framer) in
    let within = stands.within in
    let counted = place.counted in
    let taken : length front ≡ count_framed framer = length-take-le (count_framed framer) text stands.within in
    let gap : length (bytes_unframed framer) ≡ length split.gap + length (next_text framer) = ap length split.whole ∙ length-append split.gap (next_text framer) in
    let both = length-append front split.gap in
    let size : at ≡ length (front ++ split.gap) = omega (arith, high, left, within, counted, taken, gap, both) in
    record {
      front = front ++ split.gap;
      left = next_text framer ++ more;
      cut = cut;
      before = record { frames = frames; framed = IsFramed-breaks any_version front split.gap frames stands.framed split.breaks; are = refl };
      begins = begins-past (bytes_unframed framer) more some;
      fails = fails;
      place = ap (λ (k : ℕ). k + 1) (sym (length-bodies frames));
      offset = ap (λ (k : ℕ). start + k) size;
    }

-- where a fault is none of a message that isn't all there, something is left but CR and LF
some-left : (framer : Framer AnyVersion) (fault : FrameFault) → frame_fault_with any_version (next_text framer) ≡ Some fault → fault ≢ Truncated → list_all is_line_end_byte (bytes_unframed framer) ≡ false
some-left framer fault fails other = by-test (list_all is_line_end_byte (bytes_unframed framer)) refl
  where
    by-test : (b : Bool) → list_all is_line_end_byte (bytes_unframed framer) ≡ b → b ≡ false
    by-test true all =
        let cut = breaks-cut any_version (bytes_unframed framer) any-headers all in
        let same : fault ≡ Truncated = cc (sym fails ∙ cut) in absurd (other same)
    by-test false some = refl

-- an offset is within the text
pub at-within : (framer : Framer AnyVersion) (at : ℕ) (text : List ℕ) (frames : List (List ℕ)) → IsFramerWith any_version framer text frames → IsNextOffset any_version framer at → at ≤ length text
at-within framer at text frames stands place =
    let high : length text ≡ framer.base + length (bytes_held framer) =
    ap length stands.whole ∙ length-append stands.before (bytes_held framer) ∙ ap (λ (k : ℕ). k + length (bytes_held framer)) stands.dropped in
    let counted = place.counted in omega (arith, high, counted)

-- there are fewer messages than places
pub few-messages : (has_taken : List (List ℕ) → Type 0) (framer : Framer AnyVersion) (count : ℕ) (text : List ℕ) → HasReadMessages has_taken framer count text → 9 * count ≤ length text
few-messages has_taken framer count text r =
    let stands = r.stands in
    let nine = framed-nine (take (count_framed framer) text) r.frames stands.framed in
    let size = length-take-le (count_framed framer) text stands.within in
    let within = stands.within in
    let counted = r.counted in omega (arith, nine, size, within, counted)

drop-nil : (n : ℕ) → drop {A = ℕ} n [] ≡ []
drop-nil zero = refl
drop-nil (suc n) = refl

module _ {B : Type 0} (has_taken : B → List (List ℕ) → Type 0) where
  pub room-place : (messages : Messages B) → HasText has_taken messages → messages.count + 1 < 2 ^ 32
  room-place messages room =
      let few = few-messages (has_taken messages.bodies) messages.framer messages.count room.text room.reads in
      let within = room.within in omega (arith, few, within)

  pub room-offset : (messages : Messages B) (at : ℕ) → HasText has_taken messages → IsNextOffset any_version messages.framer at → at < 2 ^ 63
  room-offset messages at room place =
      let high = at-within messages.framer at room.text room.reads.frames room.reads.stands place in
      let within = room.within in omega (arith, high, within)

  -- a message was taken
  pub goes-message : (old new : Messages B) (start body to : ℕ) → old.bad ≡ None → new.bad ≡ old.bad → new.start ≡ old.start → new.count ≡ old.count + 1
      → GivesFrame any_version old.framer new.framer start body to → HandsOnMore (has_taken old.bodies) (has_taken new.bodies) (slice_range (bytes_held new.framer) body to ∷ [])
      → TakesMessage has_taken old new
  goes-message old new start body to good bad same counts gives adds = record {
    good = bad ∙ good;
    start = same;
    reads = λ text r.
        let part = slice_range (bytes_held new.framer) body to in
        let is_body : body_of_with any_version gives.frame ≡ part =
        ap (body_of_with any_version) (sym (append-nil gives.frame)) ∙ IsFrameWith-body_of any_version gives.frame part [] any-headers gives.message in
        let bodies : bodies_of r.frames ++ part ∷ [] ≡ bodies_of (r.frames ++ gives.frame ∷ []) =
        ap (λ (b : List ℕ). bodies_of r.frames ++ b ∷ []) (sym is_body) ∙ sym (map-append (body_of_with any_version) r.frames (gives.frame ∷ [])) in
        let counted = r.counted in
        let size = length-append r.frames (gives.frame ∷ []) in
        record {
          frames = r.frames ++ gives.frame ∷ [];
          stands = (gives.appends text r.frames r.stands).0;
          has = subst (has_taken new.bodies) bodies (adds (bodies_of r.frames) r.has);
          counted = omega (arith, counts, counted, size);
        };
    shorter = gives.shorter;
  }

  -- no message was left to take
  pub ends-wait : (old new : Messages B) → old.bad ≡ None → new.bad ≡ old.bad → new.bodies ≡ old.bodies → new.start ≡ old.start → new.count ≡ old.count → Waits any_version old.framer new.framer → TakesNoMessage has_taken old new
  ends-wait old new good bad bodies same count waits = record {
    start = same;
    stands = λ text r.
        let is_open : HasNoBadMessage (has_taken new.bodies) new.framer new.count text = record {
          reads = record {
            frames = r.frames;
            stands = waits.keeps text r.frames r.stands;
            has = subst (λ (b : B). has_taken b (bodies_of r.frames)) (sym bodies) r.has;
            counted = count ∙ r.counted;
          };
          short = waits.bound;
          cut = ap (frame_fault_with any_version) waits.text ∙ unfinished-cut any_version old.framer any-headers waits.unfinished;
        } in
        subst (λ (b : Option BadMessage). AreMessageFields (has_taken new.bodies) new.start new.framer new.count b text) (sym (bad ∙ good)) is_open;
  }

  -- no message begins at the next place
  pub ends-fault : (old new : Messages B) (framer : Framer AnyVersion) (at : ℕ) (fault : FrameFault) (bad : BadMessage) → new.bad ≡ Some bad → bytes_held new.framer ≡ [] → new.bodies ≡ old.bodies → new.start ≡ old.start
      → RefusesFrame any_version old.framer framer at fault → bad ≡ record { place = old.count + 1; offset = old.start + at; fault = fault } → TakesNoMessage has_taken old new
  ends-fault old new framer at fault bad is nothing bodies same refuses place = record {
    start = same;
    stands = λ text r.
        let shut : StopsAtBadMessage (has_taken new.bodies) new.start new.framer bad text = record {
          bodies = bodies_of r.frames;
          has = subst (λ (b : B). has_taken b (bodies_of r.frames)) (sym bodies) r.has;
          is_bad = λ more.
              let here = bad-frame old.start old.framer at fault more (some-left old.framer fault refuses.failing refuses.bad) refuses.place (refuses.stays more) text r.frames r.stands in
              let told : bad ≡ bad_after old.start r.frames at fault = place ∙ ap (λ (k : ℕ). record { place = k + 1; offset = old.start + at; fault = fault }) r.counted in
              subst (λ (s : ℕ). IsBadText s (text ++ more) (bodies_of r.frames) bad) (sym same) (subst (IsBadText old.start (text ++ more) (bodies_of r.frames)) (sym told) here);
          nothing = nothing;
        } in
        subst (λ (b : Option BadMessage). AreMessageFields (has_taken new.bodies) new.start new.framer new.count b text) (sym is) shut;
  }

  -- what messages stand for that met a bad one, or none
  pub shut-reads : (messages : Messages B) (bad : BadMessage) (text : List ℕ) → messages.bad ≡ Some bad → IsMessagesOf has_taken messages text → StopsAtBadMessage (has_taken messages.bodies) messages.start messages.framer bad text
  shut-reads messages bad text is stood = subst (λ (b : Option BadMessage). AreMessageFields (has_taken messages.bodies) messages.start messages.framer messages.count b text) is stood

  pub open-reads : (messages : Messages B) (text : List ℕ) → messages.bad ≡ None → IsMessagesOf has_taken messages text → HasNoBadMessage (has_taken messages.bodies) messages.framer messages.count text
  open-reads messages text is stood = subst (λ (b : Option BadMessage). AreMessageFields (has_taken messages.bodies) messages.start messages.framer messages.count b text) is stood

  -- a piece was handed to the framer
  pub fed-reads : (old new : Messages B) (piece text : List ℕ) → new.bodies ≡ old.bodies → new.count ≡ old.count → FeedsPiece any_version old.framer new.framer piece → HasReadOf has_taken old text → HasReadOf has_taken new (text ++ piece)
  fed-reads old new piece text same count feeds r = record {
    frames = r.frames;
    stands = feeds text r.frames r.stands;
    has = subst (λ (b : B). has_taken b (bodies_of r.frames)) (sym same) r.has;
    counted = count ∙ r.counted;
  }

  pub fed-room : (old new : Messages B) (piece : List ℕ) → old.bad ≡ None → new.bodies ≡ old.bodies → new.count ≡ old.count → FeedsPiece any_version old.framer new.framer piece
      → HasRoom (IsMessagesOf has_taken) old piece → HasText has_taken new
  fed-room old new piece none same count feeds room = record {
    text = room.bytes ++ piece;
    reads = fed-reads old new piece room.bytes same count feeds (open-reads old room.bytes none room.stands).reads;
    within = omega (arith, room.room, length-append room.bytes piece);
  }

  -- a bad message stays the first, whatever is fed
  pub shut-more : (messages : Messages B) (bad : BadMessage) (text piece : List ℕ) → messages.bad ≡ Some bad → IsMessagesOf has_taken messages text → IsMessagesOf has_taken messages (text ++ piece)
  shut-more messages bad text piece is stood =
      let was = shut-reads messages bad text is stood in
      let shut : StopsAtBadMessage (has_taken messages.bodies) messages.start messages.framer bad (text ++ piece) = record {
        bodies = was.bodies;
        has = was.has;
        is_bad = λ more. subst (λ (t : List ℕ). IsBadText messages.start t was.bodies bad) (sym (append_assoc text piece more)) (was.is_bad (piece ++ more));
        nothing = was.nothing;
      } in
      subst (λ (b : Option BadMessage). AreMessageFields (has_taken messages.bodies) messages.start messages.framer messages.count b (text ++ piece)) (sym is) shut

  -- at the end
  pub ends-good : (messages : Messages B) (text : List ℕ) → messages.bad ≡ None → list_all is_line_end_byte (bytes_unframed messages.framer) ≡ true → IsMessagesOf has_taken messages text
      → HasReadBodies (has_taken messages.bodies) (IsTextReading messages.start text) None
  ends-good messages text none all stood =
      let r = (open-reads messages text none stood).reads in
      let framed = IsFramed-breaks any_version (take (count_framed messages.framer) text) (bytes_unframed messages.framer) r.frames r.stands.framed all in
      record {
        bodies = bodies_of r.frames;
        has = r.has;
        read = record { frames = r.frames; framed = rw (← fed-cut messages.framer text r.frames r.stands) at framed; are = refl };
      }

  pub ends-bad : (messages : Messages B) (bad : BadMessage) (text : List ℕ) → messages.bad ≡ Some bad → IsMessagesOf has_taken messages text → HasReadBodies (has_taken messages.bodies) (IsTextReading messages.start text) (Some bad)
  ends-bad messages bad text is stood =
      let was = shut-reads messages bad text is stood in
      record {
        bodies = was.bodies;
        has = was.has;
        read = subst (λ (t : List ℕ). IsBadText messages.start t was.bodies bad) (append-nil text) (was.is_bad []);
      }

  pub ends-cut : (messages : Messages B) (at : ℕ) (bad : BadMessage) (text : List ℕ) → messages.bad ≡ None → IsNextOffset any_version messages.framer at → list_all is_line_end_byte (bytes_unframed messages.framer) ≡ false
      → bad ≡ record { place = messages.count + 1; offset = messages.start + at; fault = Truncated } → IsMessagesOf has_taken messages text
      → HasReadBodies (has_taken messages.bodies) (IsTextReading messages.start text) (Some bad)
  ends-cut messages at bad text none place some is stood =
      let opened = open-reads messages text none stood in
      let r = opened.reads in
      let cut : frame_fault_with any_version (next_text messages.framer ++ []) ≡ Some Truncated = ap (frame_fault_with any_version) (append-nil (next_text messages.framer)) ∙ opened.cut in
      let here = bad-frame messages.start messages.framer at Truncated [] some place cut text r.frames r.stands in
      let told : bad ≡ bad_after messages.start r.frames at Truncated = is ∙ ap (λ (k : ℕ). record { place = k + 1; offset = messages.start + at; fault = Truncated }) r.counted in
      record {
        bodies = bodies_of r.frames;
        has = r.has;
        read = subst (λ (t : List ℕ). IsBadText messages.start t (bodies_of r.frames) bad) (append-nil text) (subst (IsBadText messages.start (text ++ []) (bodies_of r.frames)) (sym told) here);
      }

  pub within-text : (messages : Messages B) → messages.bad ≡ None → IsMessagesWithinLimit has_taken messages → HasText has_taken messages
  within-text messages none within = record { text = within.text; reads = (open-reads messages within.text none within.stands).reads; within = within.within }

-- no bytes
pub nothing-read : (has_taken : List (List ℕ) → Type 0) (framer : Framer AnyVersion) → IsFramerWith any_version framer [] [] → bytes_held framer ≡ [] → has_taken [] → HasNoBadMessage has_taken framer 0 []
nothing-read has_taken framer stands nothing has =
    let unframed : bytes_unframed framer ≡ [] = ap (drop framer.next) nothing ∙ drop-nil framer.next in
    record {
      reads = record { frames = []; stands = stands; has = has; counted = refl };
      short = rw nothing (omega arith);
      cut = ap (λ (t : List ℕ). frame_fault_with any_version (after_breaks t)) unframed ∙ breaks-cut any_version [] any-headers refl;
    }

pub none-is : {T : Type 0} (option : Option T) → is_some option ≡ false → option ≡ None
none-is None e = refl
none-is (Some value) e = absurd (cc e)

pub some-is : {T : Type 0} (option : Option T) → is_some option ≡ true → (value : T) × (option ≡ Some value)
some-is None e = absurd (cc e)
some-is (Some value) e = (value, refl)

pub not-all : (b : Bool) → ¬ (b ≡ true) → b ≡ false
not-all true some = absurd (some refl)
not-all false some = refl
