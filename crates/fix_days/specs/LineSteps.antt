-- The steps of a feed of a day on lines.
use Rattle.std.specs.Prelude.{◌≡◌, ℕ, ◌+◌, ◌<◌, ◌≤◌, Bool, true, false, None, Some, List, length, drop}
use Rattle.log_source.specs.Sources.{longest_read}
use Rattle.fix_framing.specs.declared.frames.FrameFault.{FrameFault}
use Rattle.fix_days.specs.declared.lines.LineFeed.{LineFeed}
use Rattle.fix_days.specs.Answers.{HasCounted, HasReadBodies}
use Rattle.fix_days.specs.Fronts.{line_count}
use Rattle.fix_days.specs.Lines.{IsLineReading}
use Rattle.fix_days.specs.LineFeeds.{HasLines, IsLineFeedOf}

-- Only the bytes before the place are dropped, and those after it are read next, from where they
-- are searched.
pub record DropsTo {B S : Type 0} (place searched : ℕ) (old new : LineFeed B S) : Type 0 where
  pub held : new.held.items ≡ drop place old.held.items
  pub base : new.base ≡ old.base + place
  pub next : new.next ≡ 0
  pub searched_to : new.searched ≡ searched
  pub dress : new.soh ≡ old.soh
  pub bodies : new.bodies ≡ old.bodies
  pub count : new.count ≡ old.count
  pub bad : new.bad ≡ old.bad

-- The feed keeps only that a message is bad, at this place of the bytes held.
pub record ShutsAt {B S : Type 0} (place : ℕ) (fault : FrameFault) (old new : LineFeed B S)
    : Type 0 where
  pub bad : new.bad
      ≡ Some (record { place = old.count + 1; offset = old.base + place; fault = fault })
  pub dress : new.soh ≡ old.soh
  pub bodies : new.bodies ≡ old.bodies

-- The feed has read some day that is no longer than a log that is read may be.
pub record HasDay {B S : Type 0} (soh : List ℕ) (has_taken : B → List (List ℕ) → Type 0)
    (ended : Bool) (feed : LineFeed B S) : Type 0 where
  pub day : List ℕ
  pub reads : HasLines soh has_taken ended feed day
  pub within : length day ≤ longest_read

-- the bytes held that are not yet read
abbrev pub unread : {B S : Type 0} → LineFeed B S → List ℕ
unread feed = drop feed.next feed.held.items

-- What was read of a day at its end: its reading, with the number of its bodies.
pub record EndsLines {B S : Type 0} (soh : List ℕ) (has_taken : B → List (List ℕ) → Type 0)
    (feed : LineFeed B S) (day : List ℕ) : Type 0 where
  pub dress : feed.soh.items ≡ soh
  pub read : HasReadBodies (HasCounted (has_taken feed.bodies) (line_count feed))
      (IsLineReading soh day) feed.bad

-- what the feed stands for where no message is left to take: the day so far, or its reading where
-- it has ended
abbrev pub StopsLines : {B S : Type 0} → List ℕ → (B → List (List ℕ) → Type 0) → Bool
    → LineFeed B S → List ℕ → Type 0
StopsLines soh has_taken true feed day = EndsLines soh has_taken feed day
StopsLines soh has_taken false feed day = IsLineFeedOf soh has_taken feed day

-- A message was taken: what was read of a day stays read, with the message, and fewer bytes are
-- left.
pub record TakesLine {B S : Type 0} (soh : List ℕ) (has_taken : B → List (List ℕ) → Type 0)
    (ended : Bool) (old new : LineFeed B S) : Type 0 where
  pub good : new.bad ≡ None
  pub reads : (day : List ℕ) → HasLines soh has_taken ended old day
      → HasLines soh has_taken ended new day
  pub shorter : length (unread new) < length (unread old)

-- No message was left to take of any day that was read so far.
abbrev pub TakesNoLine : {B S : Type 0} → List ℕ → (B → List (List ℕ) → Type 0) → Bool
    → LineFeed B S → LineFeed B S → Type 0
TakesNoLine soh has_taken ended old new =
    (day : List ℕ) → HasLines soh has_taken ended old day
    → StopsLines soh has_taken ended new day
