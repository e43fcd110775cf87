-- What a feed stands for that reads each message of a log, and counts its kind. The relations are
-- those of a feed that hands on records, once for the records and once for the kinds.
use Rattle.std.specs.Prelude.{◌≡◌, ℕ, ◌≤◌, List, None, Result, MatchResult, length}
use Rattle.audit_base.specs.declared.faults.BadPlace.{BadPlace}
use Rattle.audit_base.specs.declared.faults.LogFault.{LogFault}
use Rattle.log_source.specs.Sources.{longest_read}
use Rattle.fix_messages.specs.Bodies.{MessageMeaning}
use Rattle.fix_messages.specs.Feeds.{HasMessageRecords, HasReadMessages, IsFixFeedOf, IsFixLogFaultOf}
use Rattle.fix_messages.specs.Logs.{read_fix_log}
use Rattle.fix_messages.specs.Steps.{TakesMessage, TakesNoMessage}
use Rattle.log_contents.specs.declared.contents.Contents.{Contents}
use Rattle.log_contents.specs.declared.message_feed.MessageFeed.{MessageFeed}
use Rattle.log_contents.specs.Contents.{HasKinds}
use Rattle.log_contents.specs.Kinds.{kind_of_message, kinds_of_messages}

-- what is said of the records of contents
abbrev pub RecordsSaid : Type 0 → Type 1
RecordsSaid R = Contents R → List R → Type 0

-- The feed stands for this log: its records were taken, as those of an audit are, and its first bad
-- message is that of an audit. While none is bad the kind of each message was counted.
pub record IsMessageFeedOf {R : Type 0} (has : RecordsSaid R) (meaning : MessageMeaning R)
    (feed : MessageFeed R) (log : List ℕ) : Type 0 where
  pub records : IsFixFeedOf has meaning feed.feed log
  pub kinds : feed.feed.bad ≡ None
      → HasReadMessages (HasKinds feed.feed.entries) (kind_of_message meaning) feed.feed.framer log

-- The feed stands for some log that is no longer than a log that is read may be.
pub record IsMessageFeedWithinLimit {R : Type 0} (has : RecordsSaid R) (meaning : MessageMeaning R)
    (feed : MessageFeed R) : Type 0 where
  pub log : List ℕ
  pub stands : IsMessageFeedOf has meaning feed log
  pub within : length log ≤ longest_read

-- The messages of some log were read, which is no longer than a log that is read may be: the
-- records were taken, and the kinds counted.
pub record HasMessages {R : Type 0} (has : RecordsSaid R) (meaning : MessageMeaning R)
    (feed : MessageFeed R) : Type 0 where
  pub log : List ℕ
  pub records : HasReadMessages (has feed.feed.entries) meaning feed.feed.framer log
  pub kinds : HasReadMessages (HasKinds feed.feed.entries) (kind_of_message meaning)
      feed.feed.framer log
  pub within : length log ≤ longest_read

-- A good message was taken, and its kind was counted.
pub record CountsMessage {R : Type 0} (has : RecordsSaid R) (meaning : MessageMeaning R)
    (old new : MessageFeed R) : Type 0 where
  pub records : TakesMessage has meaning old.feed new.feed
  pub kinds : TakesMessage HasKinds (kind_of_message meaning) old.feed new.feed

-- Some good messages were taken, and their kinds were counted: what was read of a log stays read.
pub record CountsMessages {R : Type 0} (has : RecordsSaid R) (meaning : MessageMeaning R)
    (old new : MessageFeed R) : Type 0 where
  pub records : (log : List ℕ)
      → HasReadMessages (has old.feed.entries) meaning old.feed.framer log
      → HasReadMessages (has new.feed.entries) meaning new.feed.framer log
  pub kinds : (log : List ℕ)
      → HasReadMessages (HasKinds old.feed.entries) (kind_of_message meaning) old.feed.framer log
      → HasReadMessages (HasKinds new.feed.entries) (kind_of_message meaning) new.feed.framer log

-- No message was left to take, or a bad one came.
pub record CountsNoMessage {R : Type 0} (has : RecordsSaid R) (meaning : MessageMeaning R)
    (old new : MessageFeed R) : Type 0 where
  pub records : TakesNoMessage has meaning old.feed new.feed
  pub kinds : new.feed.bad ≡ None
      → TakesNoMessage HasKinds (kind_of_message meaning) old.feed new.feed

-- These are the contents of a good log: the facts of its records, and its kinds counted.
pub record HasContents {R : Type 0} (has : RecordsSaid R) (meaning : MessageMeaning R)
    (log : List ℕ) (contents : Contents R) : Type 0 where
  pub records : HasMessageRecords (has contents) (read_fix_log meaning log)
  pub kinds : HasMessageRecords (HasKinds contents) (kinds_of_messages meaning log)

-- the contents of a log are answered, or its first bad place, which is that of an audit
abbrev pub AnswersContents : {R : Type 0} → RecordsSaid R → MessageMeaning R → List ℕ
    → Result (Contents R) LogFault → Type 0
AnswersContents has meaning log result =
    MatchResult result (HasContents has meaning log) (IsFixLogFaultOf (read_fix_log meaning log))
