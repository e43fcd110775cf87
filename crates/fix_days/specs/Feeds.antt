-- What a feed of a day stands for.
use Rattle.std.specs.Prelude.{◌≡◌, ℕ, ◌<◌, ◌≤◌, List, [], length, take}
use Rattle.log_source.specs.Sources.{longest_read}
use Rattle.fix_days.specs.declared.framed.FramedFeed.{FramedFeed}
use Rattle.fix_days.specs.declared.messages.Messages.{Messages}
use Rattle.fix_days.specs.Framed.{after_mark, mark_of}
use Rattle.fix_days.specs.Messages.{IsMessagesOf}

-- the messages stand for this text, which follows this many bytes of the day
pub record AreMessagesAt {B : Type 0} (has_taken : B → List (List ℕ) → Type 0)
    (messages : Messages B) (start : ℕ) (text : List ℕ) : Type 0 where
  pub messages_of : IsMessagesOf has_taken messages text
  pub starts : messages.start ≡ start

-- The feed stands for this day: it holds the first three bytes, and as long as there are fewer,
-- nothing was read. From then on what is after the mark was read.
pub record IsFramedFeedOf {B : Type 0} (has_taken : B → List (List ℕ) → Type 0)
    (feed : FramedFeed B) (day : List ℕ) : Type 0 where
  pub front : feed.front.items ≡ take 3 day
  pub early : length day < 3 → AreMessagesAt has_taken feed.messages 0 []
  pub later : 3 ≤ length day
      → AreMessagesAt has_taken feed.messages (length (mark_of day)) (after_mark day)

-- The feed stands for some day that is no longer than a log that is read may be.
pub record IsFramedFeedWithinLimit {B : Type 0} (has_taken : B → List (List ℕ) → Type 0)
    (feed : FramedFeed B) : Type 0 where
  pub day : List ℕ
  pub stands : IsFramedFeedOf has_taken feed day
  pub within : length day ≤ longest_read
