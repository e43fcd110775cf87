-- What the messages of a text stand for through their steps.
use Rattle.std.specs.Prelude.{◌≡◌, ℕ, ◌<◌, ◌≤◌, Option, Some, None, List, [], ◌++◌, length}
use Rattle.log_source.specs.Sources.{longest_read}
use Rattle.fix_framing.specs.Headers.{any_version}
use Rattle.fix_framing.specs.Frames.{frame_fault_with, longest_frame_with}
use Rattle.fix_framing.specs.Framing.{bytes_held, bytes_unframed, next_text, IsFramerWith}
use Rattle.fix_framing.specs.declared.framer.Framer.{Framer}
use Rattle.fix_framing.specs.declared.frames.FrameFault.TheVariants.{Truncated}
use Rattle.fix_framing.specs.declared.headers.AnyVersion.{AnyVersion}
use Rattle.fix_days.specs.declared.faults.BadMessage.{BadMessage}
use Rattle.fix_days.specs.declared.messages.Messages.{Messages}
use Rattle.fix_days.specs.Framed.{bodies_of, IsBadText}

-- The framer stands for this text with some messages, `count` of them, and their bodies were
-- handed on.
pub record HasReadMessages (has_taken : List (List ℕ) → Type 0) (framer : Framer AnyVersion)
    (count : ℕ) (text : List ℕ) : Type 0 where
  pub frames : List (List ℕ)
  pub stands : IsFramerWith any_version framer text frames
  pub has : has_taken (bodies_of frames)
  pub counted : count ≡ length frames

-- No bad message has come yet, and what is held is no whole message: fewer bytes than the longest
-- message has.
pub record HasNoBadMessage (has_taken : List (List ℕ) → Type 0) (framer : Framer AnyVersion)
    (count : ℕ) (text : List ℕ) : Type 0 where
  pub reads : HasReadMessages has_taken framer count text
  pub short : length (bytes_held framer) < longest_frame_with any_version
  pub cut : frame_fault_with any_version (next_text framer) ≡ Some Truncated

-- The text and every longer text that begins with it are bad there, the bodies before that were
-- handed on, and no bytes are held.
pub record StopsAtBadMessage (has_taken : List (List ℕ) → Type 0) (start : ℕ)
    (framer : Framer AnyVersion) (bad : BadMessage) (text : List ℕ) : Type 0 where
  pub bodies : List (List ℕ)
  pub has : has_taken bodies
  pub is_bad : (more : List ℕ) → IsBadText start (text ++ more) bodies bad
  pub nothing : bytes_held framer ≡ []

-- these parts stand for this text
abbrev pub AreMessageFields : (List (List ℕ) → Type 0) → ℕ → Framer AnyVersion → ℕ
    → Option BadMessage → List ℕ → Type 0
AreMessageFields has_taken start framer count None text =
    HasNoBadMessage has_taken framer count text
AreMessageFields has_taken start framer count (Some bad) text =
    StopsAtBadMessage has_taken start framer bad text

-- the messages stand for this text; `has_taken` says what their taker has been handed
abbrev pub IsMessagesOf : {B : Type 0} → (B → List (List ℕ) → Type 0) → Messages B → List ℕ
    → Type 0
IsMessagesOf has_taken messages text =
    AreMessageFields (has_taken messages.bodies) messages.start messages.framer messages.count
    messages.bad text

-- The messages stand for some text that is no longer than a log that is read may be.
pub record IsMessagesWithinLimit {B : Type 0} (has_taken : B → List (List ℕ) → Type 0)
    (messages : Messages B) : Type 0 where
  pub text : List ℕ
  pub stands : IsMessagesOf has_taken messages text
  pub within : length text ≤ longest_read

-- the parts of the messages stand for this text, so far as it was read
abbrev pub HasReadOf : {B : Type 0} → (B → List (List ℕ) → Type 0) → Messages B → List ℕ
    → Type 0
HasReadOf has_taken messages text =
    HasReadMessages (has_taken messages.bodies) messages.framer messages.count text

-- The framer stands for some text that is no longer than a log that is read may be.
pub record HasText {B : Type 0} (has_taken : B → List (List ℕ) → Type 0) (messages : Messages B)
    : Type 0 where
  pub text : List ℕ
  pub reads : HasReadOf has_taken messages text
  pub within : length text ≤ longest_read

-- A message was taken: what was read of a text stays read, with the message, and fewer bytes are
-- left.
pub record TakesMessage {B : Type 0} (has_taken : B → List (List ℕ) → Type 0)
    (old new : Messages B) : Type 0 where
  pub good : new.bad ≡ None
  pub start : new.start ≡ old.start
  pub reads : (text : List ℕ) → HasReadOf has_taken old text → HasReadOf has_taken new text
  pub shorter : length (bytes_unframed new.framer) < length (bytes_unframed old.framer)

-- No message was left to take: the messages stand for each text that was read so far.
pub record TakesNoMessage {B : Type 0} (has_taken : B → List (List ℕ) → Type 0)
    (old new : Messages B) : Type 0 where
  pub start : new.start ≡ old.start
  pub stands : (text : List ℕ) → HasReadOf has_taken old text
      → IsMessagesOf has_taken new text
