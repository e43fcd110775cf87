-- What a feed of a day on lines stands for.
use Rattle.std.specs.Prelude.{◌≡◌, ℕ, ◌+◌, ◌*◌, ◌<◌, ◌≤◌, Bool, false, Option, Some, None, List, ◌++◌, length, drop}
use Rattle.log_source.specs.Sources.{longest_read}
use Rattle.fix_days.specs.declared.faults.BadMessage.{BadMessage}
use Rattle.fix_days.specs.declared.lines.LineFeed.{LineFeed}
use Rattle.fix_days.specs.Lines.{HasNoLineEnd, IsBadOnLines, IsLeftAfter}
use Rattle.fix_days.specs.Searches.{IsSearched}
use Rattle.fix_days.specs.Undressings.{MayFollow}

-- The feed has read these messages of the day, and none is bad: their bodies were handed on, and
-- what is left after them, whatever may follow, is searched so far.
pub record HasLines {B S : Type 0} (soh : List ℕ) (has_taken : B → List (List ℕ) → Type 0)
    (ended : Bool) (feed : LineFeed B S) (day : List ℕ) : Type 0 where
  pub dress : feed.soh.items ≡ soh
  pub some : 0 < length soh
  pub line : HasNoLineEnd soh
  pub before : List ℕ
  pub dropped : length before ≡ feed.base
  pub whole : day ≡ before ++ feed.held.items
  pub within : feed.next ≤ length feed.held.items
  pub bodies : List (List ℕ)
  pub has : has_taken feed.bodies bodies
  pub counted : feed.count ≡ length bodies
  pub few : 9 * feed.count ≤ feed.base + feed.next
  pub left : List ℕ
  pub messages : (more : List ℕ) → MayFollow ended more
      → IsLeftAfter soh (day ++ more) bodies (left ++ more)
  pub searched : IsSearched left (drop feed.next feed.held.items) feed.searched

-- The day and every longer day that begins with it are bad there, and the bodies before that were
-- handed on.
pub record StopsAtBadLine {B S : Type 0} (soh : List ℕ) (has_taken : B → List (List ℕ) → Type 0)
    (feed : LineFeed B S) (bad : BadMessage) (day : List ℕ) : Type 0 where
  pub dress : feed.soh.items ≡ soh
  pub bodies : List (List ℕ)
  pub has : has_taken feed.bodies bodies
  pub is_bad : (more : List ℕ) → IsBadOnLines soh (day ++ more) bodies bad

-- the feed with this first bad message, or with none, stands for this day
abbrev pub IsLineFeedWith : {B S : Type 0} → List ℕ → (B → List (List ℕ) → Type 0)
    → LineFeed B S → Option BadMessage → List ℕ → Type 0
IsLineFeedWith soh has_taken feed None day = HasLines soh has_taken false feed day
IsLineFeedWith soh has_taken feed (Some bad) day = StopsAtBadLine soh has_taken feed bad day

-- the feed stands for this day, where this text stands for SOH; `has_taken` says what its taker has
-- been handed
abbrev pub IsLineFeedOf : {B S : Type 0} → List ℕ → (B → List (List ℕ) → Type 0) → LineFeed B S
    → List ℕ → Type 0
IsLineFeedOf soh has_taken feed day = IsLineFeedWith soh has_taken feed feed.bad day

-- The feed stands for some day that is no longer than a log that is read may be.
pub record IsLineFeedWithinLimit {B S : Type 0} (soh : List ℕ)
    (has_taken : B → List (List ℕ) → Type 0) (feed : LineFeed B S) : Type 0 where
  pub day : List ℕ
  pub stands : IsLineFeedOf soh has_taken feed day
  pub within : length day ≤ longest_read
