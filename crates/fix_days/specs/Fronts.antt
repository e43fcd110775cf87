-- What a feed has read of a day that may go on: which bodies were handed on, and that every reading
-- of the day begins with them.
use Rattle.std.specs.Prelude.{◌≡◌, ◌-◌, ℕ, Option, Some, None, List, ◌++◌}
use Rattle.fix_days.specs.declared.faults.BadMessage.{BadMessage}
use Rattle.fix_days.specs.declared.framed.FramedFeed.{FramedFeed}
use Rattle.fix_days.specs.declared.lines.LineFeed.{LineFeed}
use Rattle.fix_days.specs.Feeds.{IsFramedFeedOf}
use Rattle.fix_days.specs.LineFeeds.{IsLineFeedOf}

-- the feed stands for this day, and exactly these bodies were handed on
abbrev pub HasReadFramed : {B : Type 0} → FramedFeed B → List ℕ → List (List ℕ) → Type 0
HasReadFramed feed day bodies = IsFramedFeedOf (λ taker handed. handed ≡ bodies) feed day

-- the same of a feed of a day on lines, where this text stands for SOH
abbrev pub HasReadLines : {B S : Type 0} → List ℕ → LineFeed B S → List ℕ → List (List ℕ) → Type 0
HasReadLines soh feed day bodies = IsLineFeedOf soh (λ taker handed. handed ≡ bodies) feed day

-- the bodies begin those of every reading of a day that begins with these bytes
abbrev pub BeginsReadings : (List ℕ → List (List ℕ) → Option BadMessage → Type 0) → List ℕ
    → List (List ℕ) → Type 0
BeginsReadings reads front bodies =
    (more : List ℕ) (others : List (List ℕ)) (bad : Option BadMessage)
    → reads (front ++ more) others bad → (rest : List (List ℕ)) × (others ≡ bodies ++ rest)

-- how many bodies were handed on before a bad message, or so far
abbrev pub count_before : Option BadMessage → ℕ → ℕ
count_before None count = count
count_before (Some bad) count = bad.place - 1

-- how many bodies the feed has handed on
abbrev pub framed_count : {B : Type 0} → FramedFeed B → ℕ
framed_count feed = count_before feed.messages.bad feed.messages.count

-- the same of a feed of a day on lines
abbrev pub line_count : {B S : Type 0} → LineFeed B S → ℕ
line_count feed = count_before feed.bad feed.count
