-- What a feed stands for that counts each message, through its steps: those of a feed that hands on
-- records, once for the records and once for the kinds.
use Rattle.std.proofs.Common.{◌≡◌, ℕ, ◌<◌, ◌≤◌, Option, Some, None, Result, Ok, Err, List, [], ◌∷◌, ◌++◌, length, is_ok, refl, sym, subst, true, arith}
use Rattle.std.specs.Prelude.{◌+◌, IsTrue}
use Rattle.std.specs.List.{list_all, slice_range}
use Rattle.std.proofs.lemmas.List.{length-append}
use Rattle.audit_base.specs.declared.faults.BadPlace.{BadPlace}
use Rattle.audit_base.specs.declared.faults.Reason.{Reason}
use Rattle.audit_base.specs.declared.faults.Reason.TheVariants as reason
use Rattle.fix_fields.specs.Grammar.{TagValue}
use Rattle.fix_framing.specs.Breaks.{is_line_end_byte}
use Rattle.fix_framing.specs.Framing.{bytes_held, bytes_unframed, FeedsPiece, GivesFrame, IsNextOffset, RefusesFrame, Waits}
use Rattle.fix_framing.specs.Headers.{fix44}
use Rattle.fix_framing.specs.declared.framer.Framer.{Framer}
use Rattle.fix_framing.specs.declared.frames.FrameFault.{FrameFault}
use Rattle.fix_framing.specs.declared.headers.Fix44.{Fix44}
use Rattle.fix_messages.specs.declared.meanings.MessageFault.{MessageFault}
use Rattle.fix_messages.specs.Bodies.{body_says}
use Rattle.fix_messages.specs.Feeds.{AreFixFeedFields, HasNoBadMessage, IsFixFeedOf}
use Rattle.fix_messages.specs.Logs.{frame_reason, read_fix_log}
use Rattle.fix_messages.specs.Steps.{HasLog, IsBadMessagePlace, TakesSaid}
use Rattle.fix_messages.proofs.FeedLemmas.{ends-bad, ends-cut, ends-fault, ends-good, ends-message, ends-wait, ended, fed-reads, fed-room, goes-said, log-place, open-reads, shut-reads}
use Rattle.log_source.specs.Collectors.{HasPlace}
use Rattle.log_source.specs.Feeds.{HasRoom}
use Rattle.log_source.specs.Sources.{longest_read}
use Rattle.log_contents.specs.Contents.{HasKinds}
use Rattle.log_contents.specs.Kinds.{kind_of_message}
use Rattle.log_contents.specs.MessageFeeds.{CountsMessage, CountsMessages, CountsNoMessage, HasContents, HasMessages, IsMessageFeedOf, IsMessageFeedWithinLimit}
use Rattle.log_contents.specs.declared.contents.Contents.{Contents}
use Rattle.log_contents.specs.declared.message_feed.MessageFeed.{MessageFeed}

-- what was said of a text that is held
pub held-says : {R : Type 0} (meaning : List TagValue → Result (Option R) MessageFault) (text held : List ℕ) (body to : ℕ) (before after : List R → Type 0) (answer : Result (Unit {0}) Reason) → text ≡ held
    → TakesSaid (body_says meaning (slice_range text body to)) before after answer → TakesSaid (body_says meaning (slice_range held body to)) before after answer
held-says meaning text held body to before after answer is said = subst (λ (t : List ℕ). TakesSaid (body_says meaning (slice_range t body to)) before after answer) is said

-- what was said where the answer is a fault
pub said-fault : {R : Type 0} (says : Result (Option R) Reason) (before after : List R → Type 0) (answer : Result (Unit {0}) Reason) (why : Reason) → answer ≡ Err why → TakesSaid says before after answer → TakesSaid says before after (Err why)
said-fault says before after answer why is said = subst (λ (a : Result (Unit {0}) Reason). TakesSaid says before after a) is said

module _ {R : Type 0} (has : Contents R → List R → Type 0) (meaning : List TagValue → Result (Option R) MessageFault) where
  record-log : (feed : MessageFeed R) → HasMessages has meaning feed → HasLog has meaning feed.feed
  record-log feed is = record { log = is.log; reads = is.records; within = is.within }

  kind-log : (feed : MessageFeed R) → HasMessages has meaning feed → HasLog HasKinds (kind_of_message meaning) feed.feed
  kind-log feed is = record { log = is.log; reads = is.kinds; within = is.within }

  -- there is a place for one record more, and for one kind
  pub record-place : (feed : MessageFeed R) → HasMessages has meaning feed → HasPlace has feed.feed.entries
  record-place feed is = log-place meaning has feed.feed (record-log feed is)

  pub kind-place : (feed : MessageFeed R) → HasMessages has meaning feed → HasPlace HasKinds feed.feed.entries
  kind-place feed is = log-place (kind_of_message meaning) HasKinds feed.feed (kind-log feed is)

  pub waits-next : (old new : MessageFeed R) → old.feed.bad ≡ None → new.feed.bad ≡ old.feed.bad → new.feed.entries ≡ old.feed.entries → Waits fix44 old.feed.framer new.feed.framer → CountsNoMessage has meaning old new
  waits-next old new good bad entries waits = record {
    records = ends-wait has meaning old.feed new.feed good bad entries waits;
    kinds = λ none. ends-wait HasKinds (kind_of_message meaning) old.feed new.feed good bad entries waits;
  }

  pub ends-at-fault : (old new : MessageFeed R) (framer : Framer Fix44) (at : ℕ) (fault : FrameFault) (why : Reason) (bad : BadPlace) → new.feed.bad ≡ Some bad → bytes_held new.feed.framer ≡ [] → RefusesFrame fix44 old.feed.framer framer at fault
      → why ≡ frame_reason fault → IsBadMessagePlace (has old.feed.entries) at why bad → CountsNoMessage has meaning old new
  ends-at-fault old new framer at fault why bad is nothing refuses same place = record {
    records = ends-fault has meaning old.feed new.feed framer at fault why bad is nothing refuses same place;
    kinds = λ none. absurd (cc (is, none));
  }

  pub ends-at-message : (old new : MessageFeed R) (framer : Framer Fix44) (start body to : ℕ) (why : Reason) (after : Contents R) (bad : BadPlace) → new.feed.bad ≡ Some bad → bytes_held new.feed.framer ≡ [] → GivesFrame fix44 old.feed.framer framer start body to
      → TakesSaid (body_says meaning (slice_range (bytes_held framer) body to)) (has old.feed.entries) (has after) (Err why) → IsBadMessagePlace (has after) start why bad → CountsNoMessage has meaning old new
  ends-at-message old new framer start body to why after bad is nothing gives said place = record {
    records = ends-message has meaning old.feed new.feed framer start body to why after bad is nothing gives said place;
    kinds = λ none. absurd (cc (is, none));
  }

  pub counts-message : (old new : MessageFeed R) (start body to : ℕ) (answer : Result (Unit {0}) Reason) → old.feed.bad ≡ None → new.feed.bad ≡ old.feed.bad → GivesFrame fix44 old.feed.framer new.feed.framer start body to
      → TakesSaid (body_says meaning (slice_range (bytes_held new.feed.framer) body to)) (has old.feed.entries) (has new.feed.entries) answer
      → TakesSaid (body_says (kind_of_message meaning) (slice_range (bytes_held new.feed.framer) body to)) (HasKinds old.feed.entries) (HasKinds new.feed.entries) answer
      → is_ok answer ≡ true → CountsMessage has meaning old new
  counts-message old new start body to answer good bad gives said counted ok = record {
    records = goes-said has meaning old.feed new.feed start body to answer good bad gives said ok;
    kinds = goes-said HasKinds (kind_of_message meaning) old.feed new.feed start body to answer good bad gives counted ok;
  }

  -- what was read of a log stays so over one message more
  pub messages-more : (old new : MessageFeed R) → HasMessages has meaning old → CountsMessage has meaning old new → HasMessages has meaning new
  messages-more old new is counts = record { log = is.log; records = counts.records.reads is.log is.records; kinds = counts.kinds.reads is.log is.kinds; within = is.within }

  pub no-messages : (feed : MessageFeed R) → CountsMessages has meaning feed feed
  no-messages feed = record { records = λ log read. read; kinds = λ log read. read }

  pub one-message : (first old new : MessageFeed R) → CountsMessages has meaning first old → CountsMessage has meaning old new → CountsMessages has meaning first new
  one-message first old new before counts = record {
    records = λ log read. counts.records.reads log (before.records log read);
    kinds = λ log read. counts.kinds.reads log (before.kinds log read);
  }

  -- the last call found none
  pub messages-end : (first old new : MessageFeed R) → CountsMessages has meaning first old → CountsNoMessage has meaning old new → CountsNoMessage has meaning first new
  messages-end first old new before ends = record {
    records = record { stands = λ log read. ends.records.stands log (before.records log read); cut = ends.records.cut };
    kinds = λ good. record { stands = λ log read. (ends.kinds good).stands log (before.kinds log read); cut = (ends.kinds good).cut };
  }

  -- a piece was handed to the framer
  pub fed-messages : (old new : MessageFeed R) (piece : List ℕ) → old.feed.bad ≡ None → new.feed.entries ≡ old.feed.entries → FeedsPiece fix44 old.feed.framer new.feed.framer piece
      → HasRoom (IsMessageFeedOf has meaning) old piece → HasMessages has meaning new
  fed-messages old new piece none same feeds room =
      let log = fed-room has meaning old.feed new.feed piece none same feeds (record { bytes = room.bytes; stands = room.stands.records; room = room.room }) in
      record {
        log = room.bytes ++ piece;
        records = fed-reads has meaning old.feed new.feed piece room.bytes same feeds (open-reads has meaning old.feed room.bytes none room.stands.records);
        kinds = fed-reads HasKinds (kind_of_message meaning) old.feed new.feed piece room.bytes same feeds (room.stands.kinds none);
        within = within-more room.bytes piece room.room;
      }
    where
      within-more : (bytes piece : List ℕ) → length bytes + length piece ≤ longest_read → length (bytes ++ piece) ≤ longest_read
      within-more bytes piece room = omega (arith, room, length-append bytes piece)

  -- the messages that it holds were taken, whatever was fed
  pub fed-stands : (old fed new : MessageFeed R) (piece log : List ℕ) → old.feed.bad ≡ None → fed.feed.entries ≡ old.feed.entries → FeedsPiece fix44 old.feed.framer fed.feed.framer piece
      → CountsNoMessage has meaning fed new → IsMessageFeedOf has meaning old log → IsMessageFeedOf has meaning new (log ++ piece)
  fed-stands old fed new piece log none same feeds ends stood =
      let read = fed-reads has meaning old.feed fed.feed piece log same feeds (open-reads has meaning old.feed log none stood.records) in
      let counted = fed-reads HasKinds (kind_of_message meaning) old.feed fed.feed piece log same feeds (stood.kinds none) in
      record {
        records = ends.records.stands (log ++ piece) read;
        kinds = λ good. open-reads HasKinds (kind_of_message meaning) new.feed (log ++ piece) good ((ends.kinds good).stands (log ++ piece) counted);
      }

  -- a feed that met no bad message stands for a log by its kinds too
  kinds-stand : (feed : MessageFeed R) (log : List ℕ) → feed.feed.bad ≡ None → IsMessageFeedOf has meaning feed log → IsFixFeedOf HasKinds (kind_of_message meaning) feed.feed log
  kinds-stand feed log none stood =
      let opened : HasNoBadMessage (has feed.feed.entries) meaning feed.feed.framer log = subst (λ (b : Option BadPlace). AreFixFeedFields (has feed.feed.entries) meaning feed.feed.framer b log) none stood.records in
      let counted : HasNoBadMessage (HasKinds feed.feed.entries) (kind_of_message meaning) feed.feed.framer log = record { reads = stood.kinds none; short = opened.short } in
      subst (λ (b : Option BadPlace). AreFixFeedFields (HasKinds feed.feed.entries) (kind_of_message meaning) feed.feed.framer b log) (sym none) counted

  -- the end of a log
  module _ (old new : MessageFeed R) (none : old.feed.bad ≡ None) (ends : CountsNoMessage has meaning old new) where
    pub contents-bad : (bad : BadPlace) (log : List ℕ) → new.feed.bad ≡ Some bad → IsMessageFeedOf has meaning old log → read_fix_log meaning log ≡ Err bad
    contents-bad bad log is stood = ends-bad has meaning old.feed new.feed none ends.records bad log is stood.records

    pub contents-good : (log : List ℕ) → new.feed.bad ≡ None → IsTrue (list_all is_line_end_byte (bytes_unframed new.feed.framer)) → IsMessageFeedOf has meaning old log → HasContents has meaning log new.feed.entries
    contents-good log good all stood =
        record {
          records = ends-good has meaning old.feed new.feed none ends.records log good all stood.records;
          kinds = ends-good HasKinds (kind_of_message meaning) old.feed new.feed none (ends.kinds good) log good all (kinds-stand old log none stood);
        }

    pub contents-within : IsMessageFeedWithinLimit has meaning old → new.feed.bad ≡ None → HasMessages has meaning new
    contents-within within good = record {
      log = within.log;
      records = ended has meaning old.feed new.feed none ends.records within.log good within.stands.records;
      kinds = open-reads HasKinds (kind_of_message meaning) new.feed within.log good ((ends.kinds good).stands within.log (within.stands.kinds none));
      within = within.within;
    }

    pub contents-cut : (at : ℕ) (bad : BadPlace) (log : List ℕ) → new.feed.bad ≡ None → IsNextOffset fix44 new.feed.framer at → ¬ IsTrue (list_all is_line_end_byte (bytes_unframed new.feed.framer))
        → IsBadMessagePlace (has new.feed.entries) at reason.Truncated bad → IsMessageFeedOf has meaning old log → read_fix_log meaning log ≡ Err bad
    contents-cut at bad log good next some place stood = ends-cut has meaning old.feed new.feed none ends.records at bad log good next some place stood.records
