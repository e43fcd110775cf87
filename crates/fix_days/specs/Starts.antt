-- How a framed day begins: its first three bytes.
use Rattle.std.specs.Prelude.{◌≡◌, ℕ, List, [], length}
use Rattle.fix_days.specs.declared.framed.FramedFeed.{FramedFeed}
use Rattle.fix_days.specs.Framed.{after_mark, mark_of}
use Rattle.fix_days.specs.Feeds.{AreMessagesAt, IsFramedFeedOf}

-- three bytes have come, and nothing was read
pub record HasFront {B : Type 0} (has_taken : B → List (List ℕ) → Type 0) (feed : FramedFeed B)
    : Type 0 where
  pub three : length feed.front.items ≡ 3
  pub nothing : AreMessagesAt has_taken feed.messages 0 []

-- what is after a mark in these three bytes was read
pub record BeginsDay {B : Type 0} (has_taken : B → List (List ℕ) → Type 0)
    (old new : FramedFeed B) : Type 0 where
  pub front : new.front ≡ old.front
  pub read :
      AreMessagesAt has_taken new.messages (length (mark_of old.front.items))
      (after_mark old.front.items)

-- what is after a mark was read of each day
abbrev pub HasWholeFront : {B : Type 0} → (B → List (List ℕ) → Type 0) → FramedFeed B
    → FramedFeed B → Type 0
HasWholeFront has_taken old new =
    (day : List ℕ) → IsFramedFeedOf has_taken old day
    → AreMessagesAt has_taken new.messages (length (mark_of day)) (after_mark day)
