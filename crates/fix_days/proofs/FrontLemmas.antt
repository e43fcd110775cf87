-- What a feed of a framed day has read begins every reading of a day that goes on so.
use Rattle.std.proofs.Common.{◌≡◌, ℕ, ◌<◌, ◌≤◌, Option, Some, None, List, [], ◌∷◌, ◌++◌, length, take, refl, sym, subst, ap, ◌∙◌, inl, inr, append_assoc, arith}
use Rattle.std.proofs.lemmas.Bool.{cases_lt}
use Rattle.std.proofs.lemmas.List.{append-nil, map-append}
use Rattle.fix_framing.specs.Breaks.{after_breaks}
use Rattle.fix_framing.specs.Headers.{any_version}
use Rattle.fix_framing.specs.Frames.{body_of_with}
use Rattle.fix_framing.specs.Framing.{IsFramedWith, bytes_unframed, count_framed}
use Rattle.fix_framing.specs.declared.framer.Framer.{Framer}
use Rattle.fix_framing.specs.declared.headers.AnyVersion.{AnyVersion}
use Rattle.fix_framing.proofs.UniqueLemmas.{frames-unique}
use Rattle.fix_days.specs.declared.faults.BadMessage.{BadMessage}
use Rattle.fix_days.specs.declared.framed.FramedFeed.{FramedFeed}
use Rattle.fix_days.specs.Feeds.{AreMessagesAt, IsFramedFeedOf}
use Rattle.fix_days.specs.Framed.{after_mark, bodies_of, IsFramedReading, IsTextReading, mark_of}
use Rattle.fix_days.specs.Fronts.{BeginsReadings, count_before, framed_count, HasReadFramed}
use Rattle.fix_days.specs.Messages.{AreMessageFields}
use Rattle.fix_days.proofs.MarkLemmas.{behind-more, mark-more}
use Rattle.fix_days.proofs.MessageLemmas.{fed-cut, length-bodies}
use Rattle.fix_days.proofs.TextLemmas.{any-headers}
use Rattle.fix_days.proofs.UniqueLemmas.{bad-stuck, behind-gap, breaks-over, frame-still, IsStuck, nothing-stuck, not-left, one-reading}

-- the messages of a front begin those of the text up to where none begins
pub front-frames : (fs gs : List (List ℕ)) (a x b y : List ℕ) → IsFramedWith any_version a fs → IsFramedWith any_version b gs → a ++ x ≡ b ++ y → IsStuck y → (rest : List (List ℕ)) × (gs ≡ fs ++ rest)
front-frames [] gs a x b y framed other joined stays = (gs, refl)
front-frames (f ∷ fs) [] a x b y framed other joined stays =
    let here = behind-gap a x framed.0 f framed.1 framed.2 framed.3 framed.4 framed.5 in
    let same : after_breaks y ≡ after_breaks (f ++ (framed.2 ++ x)) =
    sym (breaks-over b y other) ∙ ap after_breaks (sym joined) ∙ here ∙ sym (frame-still f framed.1 (framed.2 ++ x) framed.4) in
    absurd (not-left y f framed.1 (framed.2 ++ x) stays framed.4 same)
front-frames (f ∷ fs) (g ∷ gs) a x b y framed other joined stays =
    let here = behind-gap a x framed.0 f framed.1 framed.2 framed.3 framed.4 framed.5 in
    let there = behind-gap b y other.0 g other.1 other.2 other.3 other.4 other.5 in
    let both = frames-unique any_version f g framed.1 other.1 (framed.2 ++ x) (other.2 ++ y) any-headers framed.4 other.4 (sym here ∙ ap after_breaks joined ∙ there) in
    let rest = front-frames fs gs framed.2 x other.2 y framed.6 other.6 both.2 stays in
    (rest.0, ap (λ (t : List (List ℕ)). g ∷ t) rest.1 ∙ ap (λ (t : List ℕ). t ∷ (fs ++ rest.0)) (sym both.0))

-- so do their bodies
front-bodies : (frames others : List (List ℕ)) (a x b y : List ℕ) (bodies its : List (List ℕ)) → bodies_of frames ≡ bodies → its ≡ bodies_of others → IsFramedWith any_version a frames → IsFramedWith any_version b others → a ++ x ≡ b ++ y → IsStuck y
    → (rest : List (List ℕ)) × (its ≡ bodies ++ rest)
front-bodies frames others a x b y bodies its are is framed other joined stays =
    let front = front-frames frames others a x b y framed other joined stays in
    (bodies_of front.0, is ∙ ap bodies_of front.1 ∙ map-append (body_of_with any_version) frames front.0 ∙ ap (λ (t : List (List ℕ)). t ++ bodies_of front.0) are)

reading-front : (start : ℕ) (text : List ℕ) (frames : List (List ℕ)) (a x : List ℕ) (bodies others : List (List ℕ)) (bad : Option BadMessage) → text ≡ a ++ x → bodies_of frames ≡ bodies → IsFramedWith any_version a frames → IsTextReading start text others bad
    → (rest : List (List ℕ)) × (others ≡ bodies ++ rest)
reading-front start text frames a x bodies others None cut are framed is =
    front-bodies frames is.frames a x text [] bodies others are is.are framed is.framed (sym cut ∙ sym (append-nil text)) nothing-stuck
reading-front start text frames a x bodies others (Some bad) cut are framed is =
    front-bodies frames is.before.frames a x is.front is.left bodies others are is.before.are framed is.before.framed (sym cut ∙ is.cut) (bad-stuck start text others bad is)

pub messages-front : (start : ℕ) (framer : Framer AnyVersion) (count : ℕ) (bad : Option BadMessage) (text : List ℕ) (bodies : List (List ℕ)) → AreMessageFields (λ handed. handed ≡ bodies) start framer count bad text → BeginsReadings (IsTextReading start) text bodies
messages-front start framer count None text bodies is more others other reading =
    let reads = is.reads in
    let cut : text ++ more ≡ take (count_framed framer) text ++ (bytes_unframed framer ++ more) =
    ap (λ (t : List ℕ). t ++ more) (fed-cut framer text reads.frames reads.stands) ∙ append_assoc (take (count_framed framer) text) (bytes_unframed framer) more in
    reading-front start (text ++ more) reads.frames (take (count_framed framer) text) (bytes_unframed framer ++ more) bodies others other cut reads.has reads.stands.framed reading
messages-front start framer count (Some bad) text bodies is more others other reading =
    let same = one-reading start (text ++ more) is.bodies others (Some bad) other (is.is_bad more) reading in
    ([], sym same.0 ∙ is.has ∙ sym (append-nil bodies))

-- of no bytes nothing was handed on
nothing-handed : (start : ℕ) (framer : Framer AnyVersion) (count : ℕ) (bad : Option BadMessage) (bodies : List (List ℕ)) → AreMessageFields (λ handed. handed ≡ bodies) start framer count bad [] → bodies ≡ []
nothing-handed start framer count bad bodies is =
    let rest = messages-front start framer count bad [] bodies is [] [] None (record { frames = []; framed = refl; are = refl }) in
    none bodies rest.0 rest.1
  where
    none : (xs ys : List (List ℕ)) → [] ≡ xs ++ ys → xs ≡ []
    none [] ys e = refl
    none (x ∷ xs) ys e = cc e

-- how many were handed on
fields-count : (start : ℕ) (framer : Framer AnyVersion) (count : ℕ) (bad : Option BadMessage) (text : List ℕ) (bodies : List (List ℕ)) → AreMessageFields (λ handed. handed ≡ bodies) start framer count bad text → count_before bad count ≡ length bodies
fields-count start framer count None text bodies is =
    let reads = is.reads in reads.counted ∙ sym (length-bodies reads.frames) ∙ ap length reads.has
fields-count start framer count (Some bad) text bodies is =
    let one = is.is_bad [] in
    let place = one.place in
    let same = ap length is.has in omega (arith, place, same)

-- what a taker was handed, and what was read, say together what the feed stands for
module _ (has_taken : List (List ℕ) → Type 0) (start : ℕ) (framer : Framer AnyVersion) (count : ℕ) where
  fields-split : (bad : Option BadMessage) (text : List ℕ) → AreMessageFields has_taken start framer count bad text → (bodies : List (List ℕ)) × has_taken bodies × AreMessageFields (λ handed. handed ≡ bodies) start framer count bad text
  fields-split None text is =
      let reads = is.reads in (
        bodies_of reads.frames,
        reads.has,
        record {
          reads = record { frames = reads.frames; stands = reads.stands; has = refl; counted = reads.counted };
          short = is.short;
          cut = is.cut;
        },
      )
  fields-split (Some bad) text is = (is.bodies, is.has, record { bodies = is.bodies; has = refl; is_bad = is.is_bad; nothing = is.nothing })

  fields-join : (bad : Option BadMessage) (text : List ℕ) (bodies : List (List ℕ)) → has_taken bodies → AreMessageFields (λ handed. handed ≡ bodies) start framer count bad text → AreMessageFields has_taken start framer count bad text
  fields-join None text bodies has is =
      let reads = is.reads in
      record {
        reads = record { frames = reads.frames; stands = reads.stands; has = subst has_taken (sym reads.has) has; counted = reads.counted };
        short = is.short;
        cut = is.cut;
      }
  fields-join (Some bad) text bodies has is = record { bodies = is.bodies; has = subst has_taken (sym is.has) has; is_bad = is.is_bad; nothing = is.nothing }

short-long : (n : ℕ) → n < 3 → 3 ≤ n → ⊥
short-long n short long = omega (arith, short, long)

module _ {B : Type 0} (feed : FramedFeed B) (day : List ℕ) where
  abbrev at_messages : (has_taken : B → List (List ℕ) → Type 0) → ℕ → List ℕ → Type 0
  at_messages has_taken start text = AreMessagesAt has_taken feed.messages start text

  pub framed-split : (has_taken : B → List (List ℕ) → Type 0) → IsFramedFeedOf has_taken feed day → (bodies : List (List ℕ)) × has_taken feed.messages.bodies bodies × HasReadFramed feed day bodies
  framed-split has_taken is = elim (cases_lt (length day) 3) [
    | inl short ↦
        let at = is.early short in
        let parts = fields-split (has_taken feed.messages.bodies) feed.messages.start feed.messages.framer feed.messages.count feed.messages.bad [] at.messages_of in
        (parts.0, parts.1, record { front = is.front; early = λ less. record { messages_of = parts.2; starts = at.starts }; later = λ long. absurd (short-long (length day) short long) })
    | inr long ↦
        let at = is.later long in
        let parts = fields-split (has_taken feed.messages.bodies) feed.messages.start feed.messages.framer feed.messages.count feed.messages.bad (after_mark day) at.messages_of in
        (parts.0, parts.1, record { front = is.front; early = λ short. absurd (short-long (length day) short long); later = λ more. record { messages_of = parts.2; starts = at.starts } })
  ]

  pub framed-join : (has_taken : B → List (List ℕ) → Type 0) (bodies : List (List ℕ)) → has_taken feed.messages.bodies bodies → HasReadFramed feed day bodies → IsFramedFeedOf has_taken feed day
  framed-join has_taken bodies has is = record {
    front = is.front;
    early = λ short. let at = is.early short in
        record { messages_of = fields-join (has_taken feed.messages.bodies) feed.messages.start feed.messages.framer feed.messages.count feed.messages.bad [] bodies has at.messages_of; starts = at.starts };
    later = λ long. let at = is.later long in
        record { messages_of = fields-join (has_taken feed.messages.bodies) feed.messages.start feed.messages.framer feed.messages.count feed.messages.bad (after_mark day) bodies has at.messages_of; starts = at.starts };
  }

  pub framed-counted : (bodies : List (List ℕ)) → HasReadFramed feed day bodies → framed_count feed ≡ length bodies
  framed-counted bodies is = elim (cases_lt (length day) 3) [
    | inl short ↦ fields-count feed.messages.start feed.messages.framer feed.messages.count feed.messages.bad [] bodies (is.early short).messages_of
    | inr long ↦ fields-count feed.messages.start feed.messages.framer feed.messages.count feed.messages.bad (after_mark day) bodies (is.later long).messages_of
  ]

  pub framed-begins : (bodies : List (List ℕ)) → HasReadFramed feed day bodies → BeginsReadings IsFramedReading day bodies
  framed-begins bodies is more others other reading = elim (cases_lt (length day) 3) [
    | inl short ↦
        let none = nothing-handed feed.messages.start feed.messages.framer feed.messages.count feed.messages.bad bodies (is.early short).messages_of in
        (others, ap (λ (t : List (List ℕ)). t ++ others) (sym none))
    | inr long ↦
        let at = is.later long in
        let begin : length (mark_of (day ++ more)) ≡ feed.messages.start = ap length (mark-more day more long) ∙ sym at.starts in
        let moved : IsTextReading feed.messages.start (after_mark day ++ more) others other =
        subst (λ (t : List ℕ). IsTextReading feed.messages.start t others other) (behind-more day more long) (subst (λ (n : ℕ). IsTextReading n (after_mark (day ++ more)) others other) begin reading) in
        messages-front feed.messages.start feed.messages.framer feed.messages.count feed.messages.bad (after_mark day) bodies at.messages_of more others other moved
  ]
