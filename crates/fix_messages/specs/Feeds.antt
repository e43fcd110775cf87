-- What a FIX feed stands for, and what it and the readers of whole logs answer.
use Rattle.std.specs.Global.{Vec}
use Rattle.std.specs.Prelude.{◌≡◌, ⊤, ℕ, ◌<◌, ◌≤◌, MatchResult, Option, Some, None, Result, Ok, Err, List, [], ◌∷◌, ◌++◌, length}
use Rattle.audit_base.specs.declared.faults.Reason.{Reason}
use Rattle.audit_base.specs.declared.faults.BadPlace.{BadPlace}
use Rattle.audit_base.specs.declared.faults.LogFault.{LogFault}
use Rattle.audit_base.specs.declared.faults.LogFault.TheVariants as fault
use Rattle.log_source.specs.Sources.{longest_read}
use Rattle.fix_framing.specs.Frames.{body_of, longest_frame}
use Rattle.fix_framing.specs.Framing as framing
use Rattle.fix_framing.specs.declared.framer.Framer.{Framer}
use Rattle.fix_framing.specs.declared.headers.Fix44.{Fix44}
use Rattle.fix_messages.specs.declared.feeds.FixFeed.{FixFeed}
use Rattle.fix_messages.specs.Bodies.{MessageMeaning, body_says}
use Rattle.fix_messages.specs.Logs.{read_fix_log}

-- a message and what those after it say
abbrev pub after_frame : {R : Type 0} → Result (Option R) Reason → Result (List R) Reason
    → Result (List R) Reason
after_frame (Ok None) later = later
after_frame (Ok (Some entry)) (Ok entries) = Ok (entry ∷ entries)
after_frame (Ok (Some entry)) (Err why) = Err why
after_frame (Err why) later = Err why

-- the records that these frames mean, or why the first of them that fails a test does
abbrev pub read_frames : {R : Type 0} → MessageMeaning R → List (List ℕ) → Result (List R) Reason
read_frames meaning [] = Ok []
read_frames meaning (frame ∷ frames) =
    after_frame (body_says meaning (body_of frame)) (read_frames meaning frames)

-- The framer stands for this log with some frames, each of them means a record or nothing, and
-- their records have been handed on in order.
pub record HasReadMessages {R : Type 0} (has_taken : List R → Type 0) (meaning : MessageMeaning R)
    (framer : Framer Fix44) (log : List ℕ) : Type 0 where
  pub entries : List R
  pub has : has_taken entries
  pub frames : List (List ℕ)
  pub stands : framing.IsFramerOf framer log frames
  pub good : read_frames meaning frames ≡ Ok entries

-- No bad message has come yet, and no more is held than a message that is not all there.
pub record HasNoBadMessage {R : Type 0} (has_taken : List R → Type 0) (meaning : MessageMeaning R)
    (framer : Framer Fix44) (log : List ℕ) : Type 0 where
  pub reads : HasReadMessages has_taken meaning framer log
  pub short : length (framing.bytes_held framer) < longest_frame

-- The log and every longer log that begins with it are bad at this place, and no bytes are held.
pub record StopsAtBadMessage {R : Type 0} (meaning : MessageMeaning R) (framer : Framer Fix44)
    (bad : BadPlace) (log : List ℕ) : Type 0 where
  pub is_bad : (more : List ℕ) → read_fix_log meaning (log ++ more) ≡ Err bad
  pub nothing : framing.bytes_held framer ≡ []

-- these fields of a feed stand for this log
abbrev pub AreFixFeedFields : {R : Type 0} → (List R → Type 0) → MessageMeaning R → Framer Fix44
    → Option BadPlace → List ℕ → Type 0
AreFixFeedFields has_taken meaning framer None log = HasNoBadMessage has_taken meaning framer log
AreFixFeedFields has_taken meaning framer (Some bad) log = StopsAtBadMessage meaning framer bad log

-- the feed stands for this log; `has_taken` says what its collector has been handed
abbrev pub IsFixFeedOf : {K R : Type 0} → (K → List R → Type 0) → MessageMeaning R
    → FixFeed K → List ℕ → Type 0
IsFixFeedOf has_taken meaning feed log =
    AreFixFeedFields (has_taken feed.entries) meaning feed.framer feed.bad log

-- The feed stands for some log that is no longer than a log that is read may be.
pub record IsFixFeedWithinLimit {K R : Type 0} (has_taken : K → List R → Type 0)
    (meaning : MessageMeaning R) (feed : FixFeed K) : Type 0 where
  pub log : List ℕ
  pub stands : IsFixFeedOf has_taken meaning feed log
  pub within : length log ≤ longest_read

-- The collector has been handed exactly the records of a good log.
pub record HasMessageRecords {R : Type 0} (has_taken : List R → Type 0)
    (reading : Result (List R) BadPlace) : Type 0 where
  pub entries : List R
  pub has : has_taken entries
  pub reads : reading ≡ Ok entries

-- why a log is not read: it is bad there, or out of memory
abbrev pub IsFixLogFaultOf : {R : Type 0} → Result (List R) BadPlace → LogFault → Type 0
IsFixLogFaultOf reading (fault.Bad bad) = reading ≡ Err bad
IsFixLogFaultOf reading fault.Memory = ⊤

-- what a log says is answered: a list of its records, or why there is none
abbrev pub AnswersMessageRecords : {R : Type 0} → Result (List R) BadPlace → Result (Vec R) LogFault
    → Type 0
AnswersMessageRecords reading result =
    MatchResult result (λ records. reading ≡ Ok records.items) (IsFixLogFaultOf reading)

-- the same, where the records were handed to a collector
abbrev pub AnswersFixCollected : {K R : Type 0} → (K → List R → Type 0) → Result (List R) BadPlace
    → Result K LogFault → Type 0
AnswersFixCollected has_taken reading result =
    MatchResult result (λ collector. HasMessageRecords (has_taken collector) reading)
    (IsFixLogFaultOf reading)
