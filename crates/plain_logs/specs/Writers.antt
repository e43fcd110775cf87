-- What a writer of a day appends, and what a feed has read for it.
use Rattle.std.specs.Prelude.{◌≡◌, ◌<◌, ◌≤◌, ℕ, List, [], ◌∷◌, ◌++◌, length, map, take}
use Rattle.std.specs.List.{flat_map}
use Rattle.fix_days.specs.LinesAlone.{bad_messages, DayMessage, IsReadByLines}
use Rattle.fix_days.specs.LinesAlone.DayMessage.{Bad, Good}
use Rattle.plain_logs.specs.declared.by_lines.DayByLines.{DayByLines}
use Rattle.plain_logs.specs.declared.day_ends.PassedMessage.{PassedMessage}
use Rattle.plain_logs.specs.AloneFeeds.{HasReadAlone}
use Rattle.plain_logs.specs.PlainTexts.{plain_text}

-- of the good messages whose plain text this is, their items are written
abbrev pub AppendsGood : (List ℕ → List ℕ) → (DayMessage → List (List ℕ)) → List ℕ → List ℕ
    → List ℕ → Type 0
AppendsGood writes items_of text old new = (bodies : List (List ℕ)) → text ≡ plain_text bodies
    → new ≡ old ++ flat_map writes (flat_map items_of (map Good bodies))

-- of the bad message its items are written
abbrev pub AppendsBad : (List ℕ → List ℕ) → (DayMessage → List (List ℕ)) → PassedMessage → List ℕ
    → List ℕ → Type 0
AppendsBad writes items_of bad old new =
    new ≡ old ++ flat_map writes (items_of (Bad bad.place bad.offset bad.fault))

-- the items are written that end a day with so many messages, of which so many are bad
abbrev pub AppendsEnd : (List ℕ → List ℕ) → (List DayMessage → List (List ℕ)) → ℕ → ℕ → List ℕ
    → List ℕ → Type 0
AppendsEnd writes last_items bad count old new = (messages : List DayMessage)
    → bad ≡ length (bad_messages messages) → count ≡ length messages
    → new ≡ old ++ flat_map writes (last_items messages)

-- The feed has read this day, and these are the items of what was read.
pub record HasReadItems {T S : Type 0} (items_of : DayMessage → List (List ℕ)) (soh : List ℕ)
    (feed : DayByLines T S) (day : List ℕ) (items : List (List ℕ)) : Type 0 where
  pub messages : List DayMessage
  pub bodies : List (List ℕ)
  pub read : HasReadAlone soh feed.day day messages bodies
  pub are : items ≡ flat_map items_of (messages ++ map Good bodies)

-- More items were read, and written.
pub record WritesItems {D : Type 0} (writes : List ℕ → List ℕ)
    (has_read : D → List ℕ → List (List ℕ) → Type 0) (feed : D) (day : List ℕ)
    (items : List (List ℕ)) (old new : List ℕ) : Type 0 where
  pub more : List (List ℕ)
  pub read : has_read feed day (items ++ more)
  pub text_is : new ≡ old ++ flat_map writes more

-- what was read stays read, with these bytes, and what came with them is written
abbrev pub TakesBytes : {D : Type 0} → (List ℕ → List ℕ)
    → (D → List ℕ → List (List ℕ) → Type 0) → D → D → List ℕ → List ℕ → List ℕ → Type 0
TakesBytes writes has_read before after bytes old new =
    (day : List ℕ) (items : List (List ℕ)) → has_read before day items
    → WritesItems writes has_read after (day ++ bytes) items old new

-- The first bytes, so many of them, were taken.
pub record TakesFirst {D : Type 0} (writes : List ℕ → List ℕ)
    (has_read : D → List ℕ → List (List ℕ) → Type 0) (before after : D) (bytes : List ℕ)
    (count : ℕ) (old new : List ℕ) : Type 0 where
  pub some : 0 < count
  pub inside : count ≤ length bytes
  pub takes : TakesBytes writes has_read before after (take count bytes) old new

-- The line has ended: its last items were written, these are the messages of the day, and what was
-- read stays read with an LF.
pub record EndsLineOfDay {T S : Type 0} (writes : List ℕ → List ℕ)
    (items_of : DayMessage → List (List ℕ)) (soh : List ℕ) (feed : DayByLines T S) (day : List ℕ)
    (items : List (List ℕ)) (old new : List ℕ) : Type 0 where
  pub more : List (List ℕ)
  pub messages : List DayMessage
  pub read : HasReadAlone soh feed.day (day ++ 10 ∷ []) messages []
  pub whole : IsReadByLines soh day messages
  pub are : items ++ more ≡ flat_map items_of messages
  pub text_is : new ≡ old ++ flat_map writes more

-- so ends the line that has not ended
abbrev pub EndsLastLine : {T S : Type 0} → (List ℕ → List ℕ) → (DayMessage → List (List ℕ))
    → List ℕ → DayByLines T S → DayByLines T S → List ℕ → List ℕ → Type 0
EndsLastLine writes items_of soh before after old new =
    (day : List ℕ) (items : List (List ℕ)) → HasReadItems items_of soh before day items
    → EndsLineOfDay writes items_of soh after day items old new
