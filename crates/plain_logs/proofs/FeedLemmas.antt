-- What a feed of a day has read, and the text that it gave for that.
use Rattle.std.proofs.Common.{◌≡◌, ℕ, ◌≤◌, List, [], ◌∷◌, ◌++◌, drop, length, Option, None, ap, refl, sym, subst, ◌∙◌, arith}
use Rattle.std.specs.Prelude.{All, IsTrue}
use Rattle.std.proofs.lemmas.List.{append-nil, drop_all, drop_at}
use Rattle.fix_days.specs.declared.faults.BadMessage.{BadMessage}
use Rattle.fix_days.specs.declared.framed.FramedFeed.{FramedFeed}
use Rattle.fix_days.specs.declared.lines.LineFeed.{LineFeed}
use Rattle.fix_days.specs.Answers.{HasCounted, HasReadBodies}
use Rattle.fix_days.specs.Feeds.{IsFramedFeedOf, IsFramedFeedWithinLimit}
use Rattle.fix_days.specs.Framed.{IsFramedReading}
use Rattle.fix_days.specs.Fronts.{BeginsReadings, framed_count, HasReadFramed, HasReadLines, line_count}
use Rattle.fix_days.specs.Laws.{FitsMessage, FramedDaysAreReadOnce, LineDaysAreReadOnce, written_line}
use Rattle.fix_days.specs.LineFeeds.{IsLineFeedOf, IsLineFeedWithinLimit}
use Rattle.fix_days.specs.Lines.{is_soh_text, IsLineReading}
use Rattle.fix_days.proofs.FrontLemmas.{framed-begins, framed-counted, framed-join, framed-split}
use Rattle.fix_days.proofs.LineFrontLemmas.{lines-begins, lines-counted, lines-join, lines-split}
use Rattle.fix_days.proofs.LineLemmas.{soh-some}
use Rattle.log_source.specs.Feeds.{HasRoom}
use Rattle.log_source.specs.Handing.{HandsOnMore}
use Rattle.plain_logs.specs.declared.day_ends.DayEnd.{DayEnd}
use Rattle.plain_logs.specs.declared.day_ends.LineEnd.{LineEnd}
use Rattle.plain_logs.specs.declared.lines.PlainLines.{PlainLines}
use Rattle.plain_logs.specs.AloneFeeds.{EndsLine}
use Rattle.plain_logs.specs.DayFeeds.{EndsDay, EndsReading, HasGivenFramed, HasGivenLines, HasReadWithinLimit, HasRoomForPiece, ReadsPiece}
use Rattle.plain_logs.specs.Laws.{FramedBodiesFit, LineBodiesFit}
use Rattle.plain_logs.specs.PlainTexts.{IsTextBehind, plain_text}
use Rattle.std.proofs.lemmas.List.Elements.{All-nil}
use Rattle.plain_logs.proofs.ListLemmas.{All-front}

-- the longer of two fronts of a list begins with the shorter one
front-of : {X : Type 0} (xs ys left its : List X) → xs ++ left ≡ ys ++ its → length xs ≤ length ys → ys ≡ xs ++ drop (length xs) ys
front-of [] ys left its same less = refl
front-of (x ∷ xs) [] left its same less = absurd (omega (arith, less))
front-of (x ∷ xs) (y ∷ ys) left its same less =
    let first : y ≡ x = cc same in
    let rest : xs ++ left ≡ ys ++ its = cc same in
    ap (λ z. z ∷ ys) first ∙ ap (λ (t : List _). x ∷ t) (front-of xs ys left its rest (omega (arith, less)))

-- no text is held behind all bodies
held-none : (skipped : ℕ) (bodies : List (List ℕ)) (text : List ℕ) → skipped ≡ length bodies → text ≡ [] → IsTextBehind skipped bodies text
held-none skipped bodies text all none = record {
  some = omega (arith, all);
  text_is = λ fit. none ∙ ap plain_text (sym (drop_all skipped bodies (omega (arith, all))));
}

module _ (reads : List ℕ → List (List ℕ) → Option BadMessage → Type 0) (fit : (day : List ℕ) (bodies : List (List ℕ)) (bad : Option BadMessage) → reads day bodies bad → All FitsMessage bodies) where
  -- more was read
  record Grown (bodies its : List (List ℕ)) (text : List ℕ) : Type 0 where
    more : List (List ℕ)
    whole : its ≡ bodies ++ more
    text_is : text ≡ plain_text more

  grown : (skipped : ℕ) (day piece : List ℕ) (bodies its : List (List ℕ)) (text : List ℕ) → ((day : List ℕ) → (bodies : List (List ℕ)) × (bad : Option BadMessage) × reads day bodies bad)
      → skipped ≡ length bodies → BeginsReadings reads day bodies → BeginsReadings reads (day ++ piece) its → IsTextBehind skipped its text → Grown bodies its text
  grown skipped day piece bodies its text some all begins front has =
      let one = some (day ++ piece) in
      let whole = begins piece one.0 one.1 one.2 in
      let part = front [] one.0 one.1 (subst (λ (t : List ℕ). reads t one.0 one.1) (sym (append-nil (day ++ piece))) one.2) in
      let fits : All FitsMessage its = All-front FitsMessage its part.0 (subst (All FitsMessage) part.1 (fit (day ++ piece) one.0 one.1 one.2)) in
      let enough = has.some in
      record {
        more = drop (length bodies) its;
        whole = front-of bodies its whole.0 part.0 (sym whole.1 ∙ part.1) (omega (arith, all, enough));
        text_is = has.text_is fits ∙ ap (λ (k : ℕ). plain_text (drop k its)) all;
      }

  -- the day ends
  ended : (skipped : ℕ) (day : List ℕ) (bodies its : List (List ℕ)) (end : DayEnd) → skipped ≡ length bodies → BeginsReadings reads day bodies → reads day its end.bad → IsTextBehind skipped its end.text.items → EndsReading written_line reads day bodies end
  ended skipped day bodies its end all begins read has =
      let rest = begins [] its end.bad (subst (λ (t : List ℕ). reads t its end.bad) (sym (append-nil day)) read) in
      record {
        more = rest.0;
        read = subst (λ (bs : List (List ℕ)). reads day bs end.bad) rest.1 read;
        text_is = has.text_is (fit day its end.bad read) ∙ ap (λ (bs : List (List ℕ)). plain_text (drop skipped bs)) rest.1 ∙ ap plain_text (drop_at bodies rest.0 skipped (sym all));
      }

module _ {W : Type 0} (skipped : ℕ) where
  -- what a taker has been handed
  abbrev handed : PlainLines W → List (List ℕ) → Type 0
  handed lines bodies = IsTextBehind skipped bodies lines.text.items

  framed-stands : (feed : FramedFeed (PlainLines W)) (day : List ℕ) (bodies : List (List ℕ)) → skipped ≡ framed_count feed → HasGivenFramed feed day bodies → IsFramedFeedOf handed feed day
  framed-stands feed day bodies all has =
      framed-join feed day handed bodies (held-none skipped bodies feed.messages.bodies.text.items (all ∙ framed-counted feed day bodies has.read) has.given) has.read

  pub framed-room : (feed : FramedFeed (PlainLines W)) (piece : List ℕ) → skipped ≡ framed_count feed → HasRoomForPiece HasGivenFramed feed piece → HasRoom (IsFramedFeedOf handed) feed piece
  framed-room feed piece all room = record { bytes = room.day; stands = framed-stands feed room.day room.bodies all room.read; room = room.room }

  pub framed-within : (feed : FramedFeed (PlainLines W)) → skipped ≡ framed_count feed → HasReadWithinLimit HasGivenFramed feed → IsFramedFeedWithinLimit handed feed
  framed-within feed all has = record { day = has.day; stands = framed-stands feed has.day has.bodies all has.read; within = has.within }

  pub framed-on : (old mid new : FramedFeed (PlainLines W)) (piece : List ℕ) → FramedBodiesFit → FramedDaysAreReadOnce → skipped ≡ framed_count old
      → HandsOnMore (IsFramedFeedOf handed old) (IsFramedFeedOf handed mid) piece → ((day : List ℕ) (bodies : List (List ℕ)) → HasReadFramed mid day bodies → HasReadFramed new day bodies) → new.messages.bodies.text.items ≡ []
      → ReadsPiece written_line IsFramedReading HasGivenFramed old new piece mid.messages.bodies.text.items
  framed-on old mid new piece fit once all hands kept given day bodies has =
      let parts = framed-split mid (day ++ piece) handed (hands day (framed-stands old day bodies all has)) in
      let begins = framed-begins mid (day ++ piece) parts.0 parts.2 in
      let more = grown IsFramedReading fit skipped day piece bodies parts.0 mid.messages.bodies.text.items once.some (all ∙ framed-counted old day bodies has.read) (framed-begins old day bodies has.read) begins parts.1 in
      record {
        more = more.more;
        read = record { read = subst (HasReadFramed new (day ++ piece)) more.whole (kept (day ++ piece) parts.0 parts.2); given = given };
        begins = subst (BeginsReadings IsFramedReading (day ++ piece)) more.whole begins;
        text_is = more.text_is;
      }

  pub framed-ends : (feed : FramedFeed (PlainLines W)) (lines : PlainLines W) (end : DayEnd) → FramedBodiesFit → skipped ≡ framed_count feed → end.text.items ≡ lines.text.items
      → ((day : List ℕ) → IsFramedFeedOf handed feed day → HasReadBodies (handed lines) (IsFramedReading day) end.bad) → EndsDay written_line IsFramedReading HasGivenFramed feed end
  framed-ends feed lines end fit all text says day bodies has =
      let read = says day (framed-stands feed day bodies all has) in
      ended IsFramedReading fit skipped day bodies read.bodies end (all ∙ framed-counted feed day bodies has.read) (framed-begins feed day bodies has.read) read.read (subst (IsTextBehind skipped read.bodies) (sym text) read.has)

  module _ {S : Type 0} (soh : List ℕ) where
    lines-stands : (feed : LineFeed (PlainLines W) S) (day : List ℕ) (bodies : List (List ℕ)) → skipped ≡ line_count feed → HasGivenLines soh feed day bodies → IsLineFeedOf soh handed feed day
    lines-stands feed day bodies all has =
        lines-join soh feed day handed bodies (held-none skipped bodies feed.bodies.text.items (all ∙ lines-counted soh feed day bodies has.read) has.given) has.read

    pub lines-room : (feed : LineFeed (PlainLines W) S) (piece : List ℕ) → skipped ≡ line_count feed → HasRoomForPiece (HasGivenLines soh) feed piece → HasRoom (IsLineFeedOf soh handed) feed piece
    lines-room feed piece all room = record { bytes = room.day; stands = lines-stands feed room.day room.bodies all room.read; room = room.room }

    pub lines-within : (feed : LineFeed (PlainLines W) S) → skipped ≡ line_count feed → HasReadWithinLimit (HasGivenLines soh) feed → IsLineFeedWithinLimit soh handed feed
    lines-within feed all has = record { day = has.day; stands = lines-stands feed has.day has.bodies all has.read; within = has.within }

    pub lines-on : (old mid new : LineFeed (PlainLines W) S) (piece : List ℕ) → LineBodiesFit → LineDaysAreReadOnce → skipped ≡ line_count old
        → HandsOnMore (IsLineFeedOf soh handed old) (IsLineFeedOf soh handed mid) piece → ((day : List ℕ) (bodies : List (List ℕ)) → HasReadLines soh mid day bodies → HasReadLines soh new day bodies) → new.bodies.text.items ≡ []
        → ReadsPiece written_line (IsLineReading soh) (HasGivenLines soh) old new piece mid.bodies.text.items
    lines-on old mid new piece fit once all hands kept given day bodies has =
        let parts = lines-split soh mid (day ++ piece) handed (hands day (lines-stands old day bodies all has)) in
        let begins = lines-begins soh (soh-some soh has.is) mid (day ++ piece) parts.0 parts.2 in
        let more = grown (IsLineReading soh) (fit soh) skipped day piece bodies parts.0 mid.bodies.text.items (λ d. once.some soh d has.is) (all ∙ lines-counted soh old day bodies has.read) (lines-begins soh (soh-some soh has.is) old day bodies has.read) begins parts.1 in
        record {
          more = more.more;
          read = record { is = has.is; read = subst (HasReadLines soh new (day ++ piece)) more.whole (kept (day ++ piece) parts.0 parts.2); given = given };
          begins = subst (BeginsReadings (IsLineReading soh) (day ++ piece)) more.whole begins;
          text_is = more.text_is;
        }

    pub lines-ends : (feed : LineFeed (PlainLines W) S) (lines : PlainLines W) (end : DayEnd) → LineBodiesFit → skipped ≡ line_count feed → end.text.items ≡ lines.text.items
        → ((day : List ℕ) → IsLineFeedOf soh handed feed day → HasReadBodies (handed lines) (IsLineReading soh day) end.bad) → EndsDay written_line (IsLineReading soh) (HasGivenLines soh) feed end
    lines-ends feed lines end fit all text says day bodies has =
        let read = says day (lines-stands feed day bodies all has) in
        ended (IsLineReading soh) (fit soh) skipped day bodies read.bodies end (all ∙ lines-counted soh feed day bodies has.read) (lines-begins soh (soh-some soh has.is) feed day bodies has.read) read.read (subst (IsTextBehind skipped read.bodies) (sym text) read.has)

    -- a line ends
    pub line-ends : (feed : LineFeed (PlainLines W) S) (lines : PlainLines W) (end : LineEnd) → LineBodiesFit → skipped ≡ line_count feed → end.text.items ≡ lines.text.items
        → ((day : List ℕ) → IsLineFeedOf soh handed feed day → HasReadBodies (HasCounted (handed lines) end.bodies) (IsLineReading soh day) end.bad) → EndsLine soh feed end
    line-ends feed lines end fit all text says day bodies has =
        let read = says day (lines-stands feed day bodies all has) in
        let rest = lines-begins soh (soh-some soh has.is) feed day bodies has.read [] read.bodies end.bad (subst (λ (t : List ℕ). IsLineReading soh t read.bodies end.bad) (sym (append-nil day)) read.read) in
        record {
          more = rest.0;
          read = subst (λ (bs : List (List ℕ)). IsLineReading soh day bs end.bad) rest.1 read.read;
          text_is = text ∙ read.has.has.text_is (fit soh day read.bodies end.bad read.read) ∙ ap (λ (bs : List (List ℕ)). plain_text (drop skipped bs)) rest.1
              ∙ ap plain_text (drop_at bodies rest.0 skipped (sym (all ∙ lines-counted soh feed day bodies has.read)));
          counted = read.has.counted ∙ ap length rest.1;
        }

none-read : (bodies rest : List (List ℕ)) → [] ≡ bodies ++ rest → bodies ≡ []
none-read [] rest same = refl
none-read (body ∷ bodies) rest same = cc same

new-given : (bodies : List (List ℕ)) (text : List ℕ) → bodies ≡ [] → IsTextBehind 0 bodies text → text ≡ []
new-given bodies text none has = has.text_is (subst (All FitsMessage) (sym none) (All-nil FitsMessage)) ∙ ap plain_text none

-- a new feed has read nothing
pub framed-new : {W : Type 0} (feed : FramedFeed (PlainLines W)) → IsFramedFeedOf (handed 0) feed [] → HasGivenFramed feed [] []
framed-new feed is =
    let parts = framed-split feed [] (handed 0) is in
    let rest = framed-begins feed [] parts.0 parts.2 [] [] None (record { frames = []; framed = refl; are = refl }) in
    let none : parts.0 ≡ [] = none-read parts.0 rest.0 rest.1 in
    record { read = subst (HasReadFramed feed []) none parts.2; given = new-given parts.0 feed.messages.bodies.text.items none parts.1 }

pub lines-new : {W S : Type 0} (soh : List ℕ) (feed : LineFeed (PlainLines W) S) → IsTrue (is_soh_text soh) → IsLineFeedOf soh (handed 0) feed [] → HasGivenLines soh feed [] []
lines-new soh feed may is =
    let parts = lines-split soh feed [] (handed 0) is in
    let rest = lines-begins soh (soh-some soh may) feed [] parts.0 parts.2 [] [] None (record { left = []; messages = refl; none = λ k less. absurd (omega (arith, less)) }) in
    let none : parts.0 ≡ [] = none-read parts.0 rest.0 rest.1 in
    record { is = may; read = subst (HasReadLines soh feed []) none parts.2; given = new-given parts.0 feed.bodies.text.items none parts.1 }
