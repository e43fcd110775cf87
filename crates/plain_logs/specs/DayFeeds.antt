-- What a feed of a day is handed, and the plain text that it gives for that.
use Rattle.std.specs.Prelude.{◌≡◌, ◌≤◌, ◌+◌, ℕ, IsTrue, List, [], ◌++◌, Option, length}
use Rattle.std.specs.List.{flat_map}
use Rattle.fix_days.specs.declared.faults.BadMessage.{BadMessage}
use Rattle.fix_days.specs.declared.framed.FramedFeed.{FramedFeed}
use Rattle.fix_days.specs.declared.lines.LineFeed.{LineFeed}
use Rattle.fix_days.specs.Fronts.{BeginsReadings, HasReadFramed, HasReadLines}
use Rattle.fix_days.specs.Lines.{is_soh_text}
use Rattle.log_source.specs.Sources.{longest_read}
use Rattle.plain_logs.specs.declared.day_ends.DayEnd.{DayEnd}
use Rattle.plain_logs.specs.declared.lines.PlainLines.{PlainLines}

-- The feed has read some bytes that are with the piece no longer than a log that is read may be.
pub record HasRoomForPiece {D : Type 0} (has_read : D → List ℕ → List (List ℕ) → Type 0) (feed : D)
    (piece : List ℕ) : Type 0 where
  pub day : List ℕ
  pub bodies : List (List ℕ)
  pub read : has_read feed day bodies
  pub room : length day + length piece ≤ longest_read

-- The feed has read of this day these bodies and then more, with which every reading of a longer
-- day begins, and the text is what is written of those, one after another.
pub record HasReadMore {D : Type 0} (writes : List ℕ → List ℕ)
    (reads : List ℕ → List (List ℕ) → Option BadMessage → Type 0)
    (has_read : D → List ℕ → List (List ℕ) → Type 0) (feed : D) (day : List ℕ)
    (bodies : List (List ℕ)) (text : List ℕ) : Type 0 where
  pub more : List (List ℕ)
  pub read : has_read feed day (bodies ++ more)
  pub begins : BeginsReadings reads day (bodies ++ more)
  pub text_is : text ≡ flat_map writes more

-- what was read of a day stays read, with the piece, and the text is that of what came with it
abbrev pub ReadsPiece : {D : Type 0} → (List ℕ → List ℕ)
    → (List ℕ → List (List ℕ) → Option BadMessage → Type 0)
    → (D → List ℕ → List (List ℕ) → Type 0) → D → D → List ℕ → List ℕ → Type 0
ReadsPiece writes reads has_read old new piece text =
    (day : List ℕ) (bodies : List (List ℕ)) → has_read old day bodies
    → HasReadMore writes reads has_read new (day ++ piece) bodies text

-- The feed has read some bytes that are no longer than a log that is read may be.
pub record HasReadWithinLimit {D : Type 0} (has_read : D → List ℕ → List (List ℕ) → Type 0)
    (feed : D) : Type 0 where
  pub day : List ℕ
  pub bodies : List (List ℕ)
  pub read : has_read feed day bodies
  pub within : length day ≤ longest_read

-- What is read of the day is these bodies and then more, with this first bad message, or with none,
-- and the text is what is written of those.
pub record EndsReading (writes : List ℕ → List ℕ)
    (reads : List ℕ → List (List ℕ) → Option BadMessage → Type 0)
    (day : List ℕ) (bodies : List (List ℕ)) (end : DayEnd) : Type 0 where
  pub more : List (List ℕ)
  pub read : reads day (bodies ++ more) end.bad
  pub text_is : end.text.items ≡ flat_map writes more

-- so ends what the feed has read of each day
abbrev pub EndsDay : {D : Type 0} → (List ℕ → List ℕ)
    → (List ℕ → List (List ℕ) → Option BadMessage → Type 0)
    → (D → List ℕ → List (List ℕ) → Type 0) → D → DayEnd → Type 0
EndsDay writes reads has_read feed end =
    (day : List ℕ) (bodies : List (List ℕ)) → has_read feed day bodies
    → EndsReading writes reads day bodies end

-- The feed has read these bodies of the framed day, and holds no text.
pub record HasGivenFramed {W : Type 0} (feed : FramedFeed (PlainLines W)) (day : List ℕ)
    (bodies : List (List ℕ)) : Type 0 where
  pub read : HasReadFramed feed day bodies
  pub given : feed.messages.bodies.text.items ≡ []

-- The feed has read these bodies of the day on lines, where this text stands for SOH, and holds no
-- text.
pub record HasGivenLines {W S : Type 0} (soh : List ℕ) (feed : LineFeed (PlainLines W) S)
    (day : List ℕ) (bodies : List (List ℕ)) : Type 0 where
  pub is : IsTrue (is_soh_text soh)
  pub read : HasReadLines soh feed day bodies
  pub given : feed.bodies.text.items ≡ []
