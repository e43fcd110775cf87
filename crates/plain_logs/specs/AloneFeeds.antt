-- What a feed of a day on lines has read where each line is read alone.
use Rattle.std.specs.Prelude.{◌≡◌, ◌≤◌, ◌+◌, ℕ, Option, None, Some, List, [], ◌∷◌, ◌++◌, length, map}
use Rattle.fix_days.specs.declared.faults.BadMessage.{BadMessage}
use Rattle.fix_days.specs.declared.lines.LineFeed.{LineFeed}
use Rattle.fix_days.specs.Lines.{HasNoLineEnd, IsLineReading}
use Rattle.fix_days.specs.LinesAlone.{bad_messages, DayMessage, IsReadByLines, lines_of, LinesSay}
use Rattle.fix_days.specs.LinesAlone.DayMessage.{Bad, Good}
use Rattle.log_source.specs.Sources.{longest_read}
use Rattle.plain_logs.specs.declared.alone.AloneFeed.{AloneFeed}
use Rattle.plain_logs.specs.declared.day_ends.DayLineEnd.{DayLineEnd}
use Rattle.plain_logs.specs.declared.day_ends.LineEnd.{LineEnd}
use Rattle.plain_logs.specs.declared.day_ends.PassedMessage.{PassedMessage}
use Rattle.plain_logs.specs.declared.lines.PlainLines.{PlainLines}
use Rattle.plain_logs.specs.DayFeeds.{HasGivenLines}
use Rattle.plain_logs.specs.PlainTexts.{plain_text}

-- The line has these bodies and then more, with this first bad message, or with none; the text is
-- the plain text of those, and all bodies are counted.
pub record EndsLineWith (soh line : List ℕ) (bodies : List (List ℕ)) (end : LineEnd) : Type 0 where
  pub more : List (List ℕ)
  pub read : IsLineReading soh line (bodies ++ more) end.bad
  pub text_is : end.text.items ≡ plain_text more
  pub counted : end.bodies ≡ length (bodies ++ more)

-- so ends what the feed has read of each line
abbrev pub EndsLine : {W S : Type 0} → List ℕ → LineFeed (PlainLines W) S → LineEnd → Type 0
EndsLine soh feed end = (line : List ℕ) (bodies : List (List ℕ)) → HasGivenLines soh feed line bodies
    → EndsLineWith soh line bodies end

-- The feed has read this day: its ended lines, each alone, have these messages, whatever follows
-- them, and these bodies were read of the line that has not ended.
pub record HasReadAlone {S : Type 0} (soh : List ℕ) (feed : AloneFeed S) (day : List ℕ)
    (messages : List DayMessage) (bodies : List (List ℕ)) : Type 0 where
  pub part : List ℕ
  pub one_line : HasNoLineEnd part
  pub said : (more : List ℕ) (later : List DayMessage)
      → LinesSay soh feed.count feed.before (lines_of (part ++ more)) later
      → IsReadByLines soh (day ++ more) (messages ++ later)
  pub size : feed.taken ≡ length day
  pub before : feed.before + length part ≡ length day
  pub counted : feed.count ≡ length messages
  pub counted_bad : feed.bad ≡ length (bad_messages messages)
  pub few : feed.count ≤ feed.before
  pub few_bad : feed.bad ≤ feed.before
  pub read : HasGivenLines soh feed.line part bodies

-- The feed has read some bytes that are with so many more no longer than a log that is read may be.
pub record HasRoomAlone {S : Type 0} (soh : List ℕ) (feed : AloneFeed S) (more : ℕ) : Type 0 where
  pub day : List ℕ
  pub messages : List DayMessage
  pub bodies : List (List ℕ)
  pub read : HasReadAlone soh feed day messages bodies
  pub room : length day + more ≤ longest_read

-- The part stands behind what was read, and the text is the plain text of the bodies that came with
-- it.
pub record ReadsPartWith {S : Type 0} (soh : List ℕ) (feed : AloneFeed S) (day : List ℕ)
    (messages : List DayMessage) (bodies : List (List ℕ)) (text : List ℕ) : Type 0 where
  pub more : List (List ℕ)
  pub read : HasReadAlone soh feed day messages (bodies ++ more)
  pub text_is : text ≡ plain_text more

-- what was read stays read, with this part of a line
abbrev pub ReadsPart : {S : Type 0} → List ℕ → AloneFeed S → AloneFeed S → List ℕ → List ℕ → Type 0
ReadsPart soh old new part text =
    (day : List ℕ) (messages : List DayMessage) (bodies : List (List ℕ))
    → HasReadAlone soh old day messages bodies
    → ReadsPartWith soh new (day ++ part) messages bodies text

-- the bad message of a line, told of the day, where so many messages and bytes are before the line
abbrev pub passed_over : ℕ → ℕ → Option BadMessage → Option PassedMessage
passed_over count offset None = None
passed_over count offset (Some bad) =
    Some (record { place = count + bad.place; offset = offset + bad.offset; fault = bad.fault })

-- a message that was passed over, or none
abbrev pub passed_message : Option PassedMessage → List DayMessage
passed_message None = []
passed_message (Some bad) = Bad bad.place bad.offset bad.fault ∷ []

-- The line has ended: its messages are the bodies that were read of it and then more, and behind
-- them the one that was passed over, if there is one. The text is the plain text of those more. What
-- was read is all of the day, and stays read with an LF.
pub record EndsAloneWith {S : Type 0} (soh : List ℕ) (feed : AloneFeed S) (day : List ℕ)
    (messages : List DayMessage) (bodies : List (List ℕ)) (end : DayLineEnd) : Type 0 where
  pub more : List (List ℕ)
  pub read : HasReadAlone soh feed (day ++ 10 ∷ [])
      (messages ++ (map Good (bodies ++ more) ++ passed_message end.bad)) []
  pub whole : IsReadByLines soh day
      (messages ++ (map Good (bodies ++ more) ++ passed_message end.bad))
  pub text_is : end.text.items ≡ plain_text more

-- so ends the line that has not ended
abbrev pub EndsAlone : {S : Type 0} → List ℕ → AloneFeed S → AloneFeed S → DayLineEnd → Type 0
EndsAlone soh old new end =
    (day : List ℕ) (messages : List DayMessage) (bodies : List (List ℕ))
    → HasReadAlone soh old day messages bodies
    → EndsAloneWith soh new day messages bodies end
