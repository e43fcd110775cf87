-- What a feed stands for through its steps.
use Rattle.std.proofs.Common.{◌≡◌, ◌≢◌, ℕ, ◌+◌, ◌-◌, ◌*◌, ◌≤◌, Bool, true, false, Option, Some, None, Result, Ok, Err, List, [], ◌∷◌, ◌++◌, length, take, drop, is_ok, refl, sym, subst, ap, ◌∙◌, inl, inr, append_assoc, arith}
use Rattle.std.specs.Prelude.{IfOk, IsTrue, MatchResult, OnOk, is_some}
use Rattle.std.specs.Global.{Vec}
use Rattle.std.specs.Result.{is_err}
use Rattle.std.specs.List.{list_all, slice_range}
use Rattle.std.specs.Option.{option_to_list}
use Rattle.std.proofs.lemmas.Bool.{cases_Bool}
use Rattle.std.proofs.lemmas.List.{append-nil, drop_at, drop-drop, length-append, length-drop, length-take-le, take-append-drop}
use Rattle.audit_base.specs.declared.faults.Reason.{Reason}
use Rattle.audit_base.specs.declared.faults.Reason.TheVariants as reason
use Rattle.audit_base.specs.declared.faults.BadPlace.{BadPlace}
use Rattle.audit_base.specs.declared.faults.LogFault.{LogFault}
use Rattle.log_source.specs.Collectors.{HasPlace}
use Rattle.log_source.specs.Feeds.{HasRoom}
use Rattle.fix_fields.specs.Grammar.{TagValue}
use Rattle.fix_framing.specs.Breaks.{is_line_end_byte}
use Rattle.fix_framing.specs.Frames.{frame_fault, body_of}
use Rattle.fix_framing.specs.Framing as framing
use Rattle.fix_framing.specs.Framing.{bytes_held, count_framed, bytes_unframed, next_text, next_offset, GivesFrame, IsNextOffset, RefusesFrame, Waits}
use Rattle.fix_framing.specs.Headers.{fix44}
use Rattle.fix_framing.specs.declared.framer.Framer.{Framer}
use Rattle.fix_framing.specs.declared.headers.Fix44.{Fix44}
use Rattle.fix_framing.specs.declared.frames.FrameFault.{FrameFault}
use Rattle.fix_framing.specs.declared.frames.FrameFault.TheVariants.{Truncated}
use Rattle.fix_framing.proofs.Fix44Lemmas.{IsFrame-body_of, breaks-cut, unfinished-cut, longest-fix44}
use Rattle.fix_messages.specs.declared.feeds.FixFeed.{FixFeed}
use Rattle.fix_messages.specs.declared.meanings.MessageFault.{MessageFault}
use Rattle.fix_messages.specs.Bodies.{body_says}
use Rattle.fix_messages.specs.Feeds.{HasReadMessages, IsFixLogFaultOf, HasNoBadMessage, AnswersMessageRecords, StopsAtBadMessage, HasMessageRecords, IsFixFeedWithinLimit, AreFixFeedFields, IsFixFeedOf, read_frames}
use Rattle.fix_messages.specs.Logs.{MessageItem, after_item, frame_reason, items_from, read_items, read_fix_log}
use Rattle.log_source.specs.Handing.{HandsOnMore}
use Rattle.fix_messages.specs.Steps.{TakesNoMessage, TakesMessage, HasLog, IsBadMessagePlace, TakesSaid}
use Rattle.fix_messages.proofs.LogLemmas.{framed-count, framed-reads, items-breaks, items-fault, items-frame, prepend, prepend-bad, prepend-ok, read_frames-count, read_frames-more}

-- the bytes fed are those that are framed and those that aren't
fed-cut : (framer : Framer Fix44) (log : List ℕ) (frames : List (List ℕ)) → framing.IsFramerOf framer log frames → log ≡ take (count_framed framer) log ++ bytes_unframed framer
fed-cut framer log frames stands =
    let rest : drop (framer.base + framer.next) log ≡ bytes_unframed framer =
    sym (drop-drop framer.next framer.base log) ∙ ap (λ (t : List ℕ). drop framer.next (drop framer.base t)) stands.whole
    ∙ ap (drop framer.next) (drop_at stands.before (bytes_held framer) framer.base stands.dropped) in
    sym (take-append-drop (count_framed framer) log) ∙ ap (λ (t : List ℕ). take (count_framed framer) log ++ t) rest

-- the bad place after these records
abbrev place_after : {R : Type 0} → List R → ℕ → Reason → BadPlace
place_after entries start why = record { place = length entries + 1; offset = start; reason = why }

module _ {R : Type 0} (meaning : List TagValue → Result (Option R) MessageFault) where
  -- what a log says of which some messages were read
  pub reads-on : (entries : List R) (framer : Framer Fix44) (log more : List ℕ) (frames : List (List ℕ)) → framing.IsFramerOf framer log frames → read_frames meaning frames ≡ Ok entries
      → read_fix_log meaning (log ++ more) ≡ prepend entries (read_items (body_says meaning) (items_from 0 (count_framed framer) (bytes_unframed framer ++ more)))
  unfolding read_fix_log
  reads-on entries framer log more frames stands good =
      let front = take (count_framed framer) log in
      let cut : log ++ more ≡ front ++ (bytes_unframed framer ++ more) =
      ap (λ (t : List ℕ). t ++ more) (fed-cut framer log frames stands) ∙ append_assoc front (bytes_unframed framer) more in
      let taken : length front ≡ count_framed framer = length-take-le (count_framed framer) log stands.within in
      let size : 0 + length front ≡ count_framed framer = omega (arith, taken) in
      ap (λ (t : List ℕ). read_items (body_says meaning) (items_from 0 0 t)) cut
      ∙ framed-reads meaning 0 front (bytes_unframed framer ++ more) frames entries stands.framed good
      ∙ ap (λ (k : ℕ). prepend entries (read_items (body_says meaning) (items_from 0 k (bytes_unframed framer ++ more)))) size

  -- no record has fewer than nine bytes
  pub few-records : (entries : List R) (framer : Framer Fix44) (log : List ℕ) (frames : List (List ℕ)) → framing.IsFramerOf framer log frames → read_frames meaning frames ≡ Ok entries → 9 * length entries ≤ length log
  few-records entries framer log frames stands good =
      let a = read_frames-count meaning frames entries good in
      let b = framed-count (take (count_framed framer) log) frames stands.framed in
      let size : length (take (count_framed framer) log) ≡ count_framed framer = length-take-le (count_framed framer) log stands.within in
      let within = stands.within in omega (arith, a, b, size, within)

  -- a collector has a place for the next record
  pub log-place : {K : Type 0} (has_taken : K → List R → Type 0) (feed : FixFeed K) → HasLog has_taken meaning feed → HasPlace has_taken feed.entries
  log-place has_taken feed is =
      let r = is.reads in
      let few = few-records r.entries feed.framer is.log r.frames r.stands r.good in
      record { entries = r.entries; has = r.has; fits_places = omega (arith, few, is.within) }

  -- the next message was good
  pub goes-message : (before after : List R → Type 0) (framer framer' : Framer Fix44) (start body to : ℕ) (new : Option R) → GivesFrame fix44 framer framer' start body to
      → body_says meaning (slice_range (bytes_held framer') body to) ≡ Ok new → HandsOnMore before after (option_to_list new)
      → (log : List ℕ) → HasReadMessages before meaning framer log → HasReadMessages after meaning framer' log
  goes-message before after framer framer' start body to new gives says adds log r =
      let text = slice_range (bytes_held framer') body to in
      let is_body : body_of gives.frame ≡ text = ap body_of (sym (append-nil gives.frame)) ∙ IsFrame-body_of gives.frame text [] gives.message in
      record {
        entries = r.entries ++ option_to_list new;
        has = adds r.entries r.has;
        frames = r.frames ++ gives.frame ∷ [];
        stands = (gives.appends log r.frames r.stands).0;
        good = read_frames-more meaning r.frames gives.frame r.entries new r.good (ap (body_says meaning) is_body ∙ says);
      }

  -- what a log says whose next item is bad
  bad-next : (entries : List R) (at start : ℕ) (text : List ℕ) (item : Result (List ℕ) FrameFault) (later : List MessageItem) (why : Reason)
      → items_from 0 at text ≡ record { start = start; body = item } ∷ later
      → after_item start (Rattle.fix_messages.specs.Logs.item_says (body_says meaning) item) (read_items (body_says meaning) later) ≡ Err (record { place = 1; offset = start; reason = why })
      → prepend entries (read_items (body_says meaning) (items_from 0 at text)) ≡ Err (place_after entries start why)
  bad-next entries at start text item later why items says =
      let place : 1 + length entries ≡ length entries + 1 = omega arith in
      ap (λ (l : List MessageItem). prepend entries (read_items (body_says meaning) l)) items ∙ ap (prepend entries) says
      ∙ prepend-bad entries (record { place = 1; offset = start; reason = why }) ∙ ap (λ (k : ℕ). Err (record { place = k; offset = start; reason = why })) place

  -- the next message is bad
  pub bad-message : (entries : List R) (framer framer' : Framer Fix44) (start body to : ℕ) (why : Reason) → GivesFrame fix44 framer framer' start body to
      → body_says meaning (slice_range (bytes_held framer') body to) ≡ Err why → (log : List ℕ) (frames : List (List ℕ)) → framing.IsFramerOf framer log frames → read_frames meaning frames ≡ Ok entries
      → (more : List ℕ) → read_fix_log meaning (log ++ more) ≡ Err (place_after entries start why)
  bad-message entries framer framer' start body to why gives says log frames stands good more =
      let text = slice_range (bytes_held framer') body to in
      let rest = bytes_unframed framer' ++ more in
      let at = count_framed framer + length gives.gap in
      let cut : bytes_unframed framer ++ more ≡ gives.gap ++ (gives.frame ++ rest) =
      ap (λ (t : List ℕ). t ++ more) gives.next ∙ append_assoc gives.gap (gives.frame ++ bytes_unframed framer') more ∙ ap (λ (t : List ℕ). gives.gap ++ t) (append_assoc gives.frame (bytes_unframed framer') more) in
      let items = ap (items_from 0 (count_framed framer)) cut ∙ items-breaks (count_framed framer) gives.gap (gives.frame ++ rest) gives.breaks ∙ items-frame at gives.frame rest text gives.message in
      let fails : after_item at (body_says meaning text) (read_items (body_says meaning) (items_from 0 (at + length gives.frame) rest)) ≡ Err (record { place = 1; offset = at; reason = why }) =
      ap (λ (s : Result (Option R) Reason). after_item at s (read_items (body_says meaning) (items_from 0 (at + length gives.frame) rest))) says in
      reads-on entries framer log more frames stands good
      ∙ bad-next entries (count_framed framer) at (bytes_unframed framer ++ more) (Ok text) (items_from 0 (at + length gives.frame) rest) why items fails
      ∙ ap (λ (k : ℕ). Err (place_after entries k why)) (sym gives.begins)

  -- no message begins at the next place
  pub bad-frame : (entries : List R) (framer : Framer Fix44) (at : ℕ) (fault : FrameFault) (more : List ℕ) → list_all is_line_end_byte (bytes_unframed framer) ≡ false → IsNextOffset fix44 framer at
      → frame_fault (next_text framer ++ more) ≡ Some fault → (log : List ℕ) (frames : List (List ℕ)) → framing.IsFramerOf framer log frames → read_frames meaning frames ≡ Ok entries
      → read_fix_log meaning (log ++ more) ≡ Err (place_after entries at (frame_reason fault))
  bad-frame entries framer at fault more some place fails log frames stands good =
      let start = count_framed framer + length (bytes_unframed framer) - length (next_text framer) in
      let high : length log ≡ framer.base + length (bytes_held framer) =
      ap length stands.whole ∙ length-append stands.before (bytes_held framer) ∙ ap (λ (k : ℕ). k + length (bytes_held framer)) stands.dropped in
      let left = length-drop framer.next (bytes_held framer) in
      let within = stands.within in
      let counted = place.counted in
      let sizes : count_framed framer + length (bytes_unframed framer) ≡ framer.base + length (bytes_held framer) = omega (arith, high, left, within) in
      let same : start ≡ at = ap (λ (k : ℕ). k - length (next_text framer)) sizes ∙ sym counted in
      let items = items-fault (count_framed framer) (bytes_unframed framer) more fault some fails in
      reads-on entries framer log more frames stands good
      ∙ bad-next entries (count_framed framer) start (bytes_unframed framer ++ more) (Err fault) [] (frame_reason fault) items refl
      ∙ ap (λ (k : ℕ). Err (place_after entries k (frame_reason fault))) same

-- where a fault is none of a message that isn't all there, something is left but CR and LF
pub some-left : (framer : Framer Fix44) (fault : FrameFault) → frame_fault (next_text framer) ≡ Some fault → fault ≢ Truncated → list_all is_line_end_byte (bytes_unframed framer) ≡ false
some-left framer fault fails other = elim (cases_Bool (list_all is_line_end_byte (bytes_unframed framer))) [
  | inl all ↦
      let cut = breaks-cut (bytes_unframed framer) all in
      let same : fault ≡ Truncated = cc in absurd (other same)
  | inr some ↦ some
]

module _ {K R : Type 0} (has_taken : K → List R → Type 0) (meaning : List TagValue → Result (Option R) MessageFault) where
  pub ends-wait : (old new : FixFeed K) → old.bad ≡ None → new.bad ≡ old.bad → new.entries ≡ old.entries → Waits fix44 old.framer new.framer → TakesNoMessage has_taken meaning old new
  ends-wait old new good bad entries waits = record {
    stands = λ log r.
        let same : has_taken new.entries r.entries = subst (λ (k : K). has_taken k r.entries) (sym entries) r.has in
        let is_open : HasNoBadMessage (has_taken new.entries) meaning new.framer log = record {
          reads = record { entries = r.entries; has = same; frames = r.frames; stands = waits.keeps log r.frames r.stands; good = r.good };
          short = omega (arith, waits.bound, longest-fix44);
        } in subst (λ (b : Option BadPlace). AreFixFeedFields (has_taken new.entries) meaning new.framer b log) (sym (bad ∙ good)) is_open;
    cut = λ none. ap frame_fault waits.text ∙ unfinished-cut old.framer waits.unfinished;
  }

  shut-ends : (old new : FixFeed K) (bad : BadPlace) → new.bad ≡ Some bad → bytes_held new.framer ≡ []
      → ((log : List ℕ) → HasReadMessages (has_taken old.entries) meaning old.framer log → (more : List ℕ) → read_fix_log meaning (log ++ more) ≡ Err bad) → TakesNoMessage has_taken meaning old new
  shut-ends old new bad is nothing reads = record {
    stands = λ log r.
        let shut : StopsAtBadMessage meaning new.framer bad log = record { is_bad = reads log r; nothing = nothing } in
        subst (λ (b : Option BadPlace). AreFixFeedFields (has_taken new.entries) meaning new.framer b log) (sym is) shut;
    cut = λ none. absurd (cc);
  }

  pub ends-fault : (old new : FixFeed K) (framer : Framer Fix44) (at : ℕ) (fault : FrameFault) (why : Reason) (bad : BadPlace) → new.bad ≡ Some bad → bytes_held new.framer ≡ [] → RefusesFrame fix44 old.framer framer at fault
      → why ≡ frame_reason fault → IsBadMessagePlace (has_taken old.entries) at why bad → TakesNoMessage has_taken meaning old new
  ends-fault old new framer at fault why bad is nothing refuses same place =
      shut-ends old new bad is nothing (λ log r more.
      bad-frame meaning r.entries old.framer at fault more (some-left old.framer fault refuses.failing refuses.bad) refuses.place (refuses.stays more) log r.frames r.stands r.good
      ∙ ap (λ (w : Reason). Err (place_after r.entries at w)) (sym same) ∙ ap Err (sym (place r.entries r.has)))

  pub ends-message : (old new : FixFeed K) (framer : Framer Fix44) (start body to : ℕ) (why : Reason) (after : K) (bad : BadPlace) → new.bad ≡ Some bad → bytes_held new.framer ≡ [] → GivesFrame fix44 old.framer framer start body to
      → TakesSaid (body_says meaning (slice_range (bytes_held framer) body to)) (has_taken old.entries) (has_taken after) (Err why) → IsBadMessagePlace (has_taken after) start why bad → TakesNoMessage has_taken meaning old new
  ends-message old new framer start body to why after bad is nothing gives said place =
      shut-ends old new bad is nothing (λ log r more.
      let t = said-bad (body_says meaning (slice_range (bytes_held framer) body to)) (has_taken old.entries) (has_taken after) why said in
      bad-message meaning r.entries old.framer framer start body to why gives t.0 log r.frames r.stands r.good more
      ∙ ap Err (sym (place r.entries (t.1 r.entries r.has))))
    where
      said-bad : (says : Result (Option R) Reason) (before after : List R → Type 0) (why : Reason) → TakesSaid says before after (Err why) → (says ≡ Err why) × ((entries : List R) → before entries → after entries)
      said-bad (Ok new) before after why said = absurd (cc said.1)
      said-bad (Err other) before after why said =
          let same : other ≡ why = cc said.1 in
          (ap Err same, λ entries has. subst after (append-nil entries) (said.0 entries has))

  pub goes-said : (old new : FixFeed K) (start body to : ℕ) (answer : Result (Unit {0}) Reason) → old.bad ≡ None → new.bad ≡ old.bad → GivesFrame fix44 old.framer new.framer start body to
      → TakesSaid (body_says meaning (slice_range (bytes_held new.framer) body to)) (has_taken old.entries) (has_taken new.entries) answer → is_ok answer ≡ true → TakesMessage has_taken meaning old new
  goes-said old new start body to answer good bad gives said ok =
      let t = said-good (body_says meaning (slice_range (bytes_held new.framer) body to)) (has_taken old.entries) (has_taken new.entries) answer said ok in
      record {
        good = bad ∙ good;
        reads = goes-message meaning (has_taken old.entries) (has_taken new.entries) old.framer new.framer start body to t.0 gives t.1 t.2;
        shorter = gives.shorter;
      }
    where
      said-good : (says : Result (Option R) Reason) (before after : List R → Type 0) (answer : Result (Unit {0}) Reason) → TakesSaid says before after answer → is_ok answer ≡ true
          → (new : Option R) × (says ≡ Ok new) × HandsOnMore before after (option_to_list new)
      said-good (Ok new) before after answer said ok = (new, refl, said.0)
      said-good (Err why) before after answer said ok = absurd (cc (said.1, ok))

-- a collector has a place after a bad message
pub said-place : {K R : Type 0} (has_taken : K → List R → Type 0) (says : Result (Option R) Reason) (answer : Result (Unit {0}) Reason) (why : Reason) (old new : K)
    → HasPlace has_taken old → TakesSaid says (has_taken old) (has_taken new) answer → answer ≡ Err why → HasPlace has_taken new
said-place has_taken (Ok more) answer why old new place said is = absurd (cc (said.1, is))
said-place has_taken (Err bad) answer why old new place said is =
    record { entries = place.entries; has = subst (has_taken new) (append-nil place.entries) (said.0 place.entries place.has); fits_places = place.fits_places }

pub none-is : {T : Type 0} (option : Option T) → is_some option ≡ false → option ≡ None
none-is None e = refl
none-is (Some value) e = absurd (cc e)

-- what holds after a call that succeeds holds after this one
pub after-ok : {S E : Type 0} (result : Result S E) (P : Type 0) → is_err result ≡ false → OnOk result P → P
after-ok (Ok value) P ok holds = holds
after-ok (Err why) P ok holds = absurd (cc ok)

-- a vector that was handed the records of a log has them
pub read-kept : {R : Type 0} (reading : Result (List R) BadPlace) (result : Result (Vec R) LogFault)
    → MatchResult result (λ kept. HasMessageRecords {R = R} (λ entries. kept.items ≡ entries) reading) (IsFixLogFaultOf reading) → MatchResult result (λ kept. reading ≡ Ok kept.items) (IsFixLogFaultOf reading)
read-kept reading (Ok kept) is = is.reads ∙ ap (λ entries. Ok entries) (sym is.has)
read-kept reading (Err why) is = is

module _ {K R : Type 0} (has_taken : K → List R → Type 0) (meaning : List TagValue → Result (Option R) MessageFault) where
  -- a feed that met a bad message
  pub shut-reads : (feed : FixFeed K) (bad : BadPlace) (log : List ℕ) → feed.bad ≡ Some bad → IsFixFeedOf has_taken meaning feed log → read_fix_log meaning log ≡ Err bad
  shut-reads feed bad log is stood =
      let shut : StopsAtBadMessage meaning feed.framer bad log = subst (λ (b : Option BadPlace). AreFixFeedFields (has_taken feed.entries) meaning feed.framer b log) is stood in
      ap (read_fix_log meaning) (sym (append-nil log)) ∙ shut.is_bad []

  -- a feed that met none
  pub open-reads : (feed : FixFeed K) (log : List ℕ) → feed.bad ≡ None → IsFixFeedOf has_taken meaning feed log → HasReadMessages (has_taken feed.entries) meaning feed.framer log
  open-reads feed log is stood =
      let opened : HasNoBadMessage (has_taken feed.entries) meaning feed.framer log = subst (λ (b : Option BadPlace). AreFixFeedFields (has_taken feed.entries) meaning feed.framer b log) is stood in opened.reads

  -- the messages that a feed holds were taken
  module _ (old new : FixFeed K) (none : old.bad ≡ None) (ends : TakesNoMessage has_taken meaning old new) where
    pub ended : (log : List ℕ) → new.bad ≡ None → IsFixFeedOf has_taken meaning old log → HasReadMessages (has_taken new.entries) meaning new.framer log
    ended log good stood = open-reads new log good (ends.stands log (open-reads old log none stood))

    pub ends-bad : (bad : BadPlace) (log : List ℕ) → new.bad ≡ Some bad → IsFixFeedOf has_taken meaning old log → read_fix_log meaning log ≡ Err bad
    ends-bad bad log is stood = shut-reads new bad log is (ends.stands log (open-reads old log none stood))

    pub ends-good : (log : List ℕ) → new.bad ≡ None → IsTrue (list_all is_line_end_byte (bytes_unframed new.framer)) → IsFixFeedOf has_taken meaning old log → HasMessageRecords (has_taken new.entries) (read_fix_log meaning log)
    ends-good log good all stood =
        let r = ended log good stood in
        record {
          entries = r.entries;
          has = r.has;
          reads =
              ap (read_fix_log meaning) (sym (append-nil log)) ∙ reads-on meaning r.entries new.framer log [] r.frames r.stands r.good
              ∙ ap (λ (l : List MessageItem). prepend r.entries (read_items (body_says meaning) l)) (items-breaks (count_framed new.framer) (bytes_unframed new.framer) [] all)
              ∙ prepend-ok r.entries [] ∙ ap Ok (append-nil r.entries);
        }

    pub ends-within : IsFixFeedWithinLimit has_taken meaning old → new.bad ≡ None → HasLog has_taken meaning new
    ends-within within good = record { log = within.log; reads = ended within.log good within.stands; within = within.within }

    pub ends-few : IsFixFeedWithinLimit has_taken meaning old → new.bad ≡ None → HasPlace has_taken new.entries
    ends-few within good =
        let r = ended within.log good within.stands in
        let few = few-records meaning r.entries new.framer within.log r.frames r.stands r.good in
        record { entries = r.entries; has = r.has; fits_places = omega (arith, few, within.within) }

    pub ends-cut : (at : ℕ) (bad : BadPlace) (log : List ℕ) → new.bad ≡ None → IsNextOffset fix44 new.framer at → ¬ IsTrue (list_all is_line_end_byte (bytes_unframed new.framer))
        → IsBadMessagePlace (has_taken new.entries) at reason.Truncated bad → IsFixFeedOf has_taken meaning old log → read_fix_log meaning log ≡ Err bad
    ends-cut at bad log good next some place stood =
        let r = ended log good stood in
        let left : list_all is_line_end_byte (bytes_unframed new.framer) ≡ false = not-all (list_all is_line_end_byte (bytes_unframed new.framer)) some in
        let cut : frame_fault (next_text new.framer ++ []) ≡ Some Truncated = ap frame_fault (append-nil (next_text new.framer)) ∙ ends.cut good in
        ap (read_fix_log meaning) (sym (append-nil log)) ∙ bad-frame meaning r.entries new.framer at Truncated [] left next cut log r.frames r.stands r.good ∙ ap Err (sym (place r.entries r.has))
      where
        not-all : (b : Bool) → ¬ (b ≡ true) → b ≡ false
        not-all true some = absurd (some refl)
        not-all false some = refl

  -- a piece was handed to the framer
  pub fed-reads : (old new : FixFeed K) (piece log : List ℕ) → new.entries ≡ old.entries → framing.FeedsPiece fix44 old.framer new.framer piece
      → HasReadMessages (has_taken old.entries) meaning old.framer log → HasReadMessages (has_taken new.entries) meaning new.framer (log ++ piece)
  fed-reads old new piece log same feeds r = record {
    entries = r.entries;
    has = subst (λ (k : K). has_taken k r.entries) (sym same) r.has;
    frames = r.frames;
    stands = feeds log r.frames r.stands;
    good = r.good;
  }

  pub fed-room : (old new : FixFeed K) (piece : List ℕ) → old.bad ≡ None → new.entries ≡ old.entries → framing.FeedsPiece fix44 old.framer new.framer piece
      → HasRoom (IsFixFeedOf has_taken meaning) old piece → HasLog has_taken meaning new
  fed-room old new piece none same feeds room = record {
    log = room.bytes ++ piece;
    reads = fed-reads old new piece room.bytes same feeds (open-reads old room.bytes none room.stands);
    within = omega (arith, room.room, length-append room.bytes piece);
  }

-- what holds of the records of a log holds of a list of them
pub holds-kept : {R : Type 0} (reading : Result (List R) BadPlace) (result : Result (Vec R) LogFault) (holds : List R → Type 0)
    → AnswersMessageRecords reading result → IfOk reading holds → IfOk result (λ kept. holds kept.items)
holds-kept reading (Ok kept) holds is all = rw is at all
holds-kept reading (Err why) holds is all = tt
