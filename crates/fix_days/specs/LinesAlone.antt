-- What is read of a day on lines where bad messages are passed over: each line is read as if it were
-- a day of its own, and so nothing of it behind a bad message. The day is then a list of messages,
-- good and bad.
use Rattle.std.specs.Prelude.{◌≡◌, ℕ, ◌+◌, ◌==◌, Option, Some, None, List, [], ◌∷◌, ◌++◌, length, map, if◌then◌else◌}
use Rattle.std.specs.List.{flat_map}
use Rattle.fix_framing.specs.declared.frames.FrameFault.{FrameFault}
use Rattle.fix_days.specs.declared.faults.BadMessage.{BadMessage}
use Rattle.fix_days.specs.Lines.{IsLineReading}

-- A message of a day: its body; or that it is bad, with its place among the good and the bad ones,
-- the offset of its first byte in the day, and the first test of a frame that fails there.
pub data DayMessage : Type 0 where
  Good : List ℕ → DayMessage
  Bad : ℕ → ℕ → FrameFault → DayMessage

-- the byte before the first of these lines
abbrev pub with_byte : ℕ → List (List ℕ) → List (List ℕ)
with_byte byte [] = (byte ∷ []) ∷ []
with_byte byte (line ∷ lines) = (byte ∷ line) ∷ lines

-- the lines of a text: what is before the first LF, what is between two, and what is behind the last
abbrev pub lines_of : List ℕ → List (List ℕ)
lines_of [] = [] ∷ []
lines_of (byte ∷ rest) =
    if byte == 10 then [] ∷ lines_of rest else with_byte byte (lines_of rest)

-- the messages of a line with these bodies and this bad message, behind so many messages of the
-- day, where so many bytes of the day are before the line
abbrev pub messages_of_line : ℕ → ℕ → List (List ℕ) → Option BadMessage → List DayMessage
messages_of_line count offset bodies None = map Good bodies
messages_of_line count offset bodies (Some bad) =
    map Good bodies ++ Bad (count + bad.place) (offset + bad.offset) bad.fault ∷ []

-- The line, read as a day on lines is read, has these messages.
pub record LineSays (soh_text : List ℕ) (count offset : ℕ) (line : List ℕ)
    (messages : List DayMessage) : Type 0 where
  pub bodies : List (List ℕ)
  pub bad : Option BadMessage
  pub read : IsLineReading soh_text line bodies bad
  pub are : messages ≡ messages_of_line count offset bodies bad

-- the lines, each read alone, have these messages, one line after another
abbrev pub LinesSay : List ℕ → ℕ → ℕ → List (List ℕ) → List DayMessage → Type 0
LinesSay soh_text count offset [] messages = messages ≡ []
LinesSay soh_text count offset (line ∷ lines) messages =
    (first : List DayMessage) × (later : List DayMessage)
    × LineSays soh_text count offset line first
    × LinesSay soh_text (count + length first) (offset + (length line + 1)) lines later
    × (messages ≡ first ++ later)

-- the messages of a day whose lines are each read alone, good and bad ones
abbrev pub IsReadByLines : List ℕ → List ℕ → List DayMessage → Type 0
IsReadByLines soh_text day messages = LinesSay soh_text 0 0 (lines_of day) messages

-- the body of a message that is good
abbrev pub body_of_good : DayMessage → List (List ℕ)
body_of_good (Good body) = body ∷ []
body_of_good (Bad place offset fault) = []

-- the message, where it is bad
abbrev pub itself_if_bad : DayMessage → List DayMessage
itself_if_bad (Good body) = []
itself_if_bad (Bad place offset fault) = Bad place offset fault ∷ []

-- the bad ones of these messages
abbrev pub bad_messages : List DayMessage → List DayMessage
bad_messages messages = flat_map itself_if_bad messages

-- the bodies of the good messages
abbrev pub good_bodies : List DayMessage → List (List ℕ)
good_bodies messages = flat_map body_of_good messages
