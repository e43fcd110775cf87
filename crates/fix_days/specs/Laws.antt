-- The laws of days, in one sentence each.
use Rattle.std.specs.Prelude.{◌≡◌, ◌≤◌, ◌↔◌, ℕ, IsTrue, All, Option, None, List, [], ◌∷◌, ◌++◌, length, map}
use Rattle.std.specs.List.{flat_map}
use Rattle.audit_base.specs.Sizes.{longest_body, soh}
use Rattle.fix_framing.specs.Frames.{body_of, frame_text}
use Rattle.fix_framing.specs.Framing.{IsFramed}
use Rattle.fix_days.specs.declared.faults.BadMessage.{BadMessage}
use Rattle.fix_days.specs.Framed.{IsFramedReading}
use Rattle.fix_days.specs.LinesAlone.{DayMessage, IsReadByLines}
use Rattle.fix_days.specs.LinesAlone.DayMessage.{Good}
use Rattle.fix_days.specs.Lines.{is_soh_text, IsLineReading, StandFor}

-- Each day, however long, has one reading: bodies up to the first bad message, and that one, if
-- there is one.
pub record FramedDaysAreReadOnce : Type 0 where
  pub some : (day : List ℕ)
      → (bodies : List (List ℕ)) × (bad : Option BadMessage) × IsFramedReading day bodies bad
  pub one : (day : List ℕ) (bodies others : List (List ℕ)) (bad other : Option BadMessage)
      → IsFramedReading day bodies bad → IsFramedReading day others other
      → (bodies ≡ others) × (bad ≡ other)

-- Each day on lines, however long and whatever text stands for SOH, has one reading.
pub record LineDaysAreReadOnce : Type 0 where
  pub some : (soh_text day : List ℕ) → IsTrue (is_soh_text soh_text)
      → (bodies : List (List ℕ)) × (bad : Option BadMessage)
      × IsLineReading soh_text day bodies bad
  pub one : (soh_text day : List ℕ) (bodies others : List (List ℕ))
      (bad other : Option BadMessage) → IsTrue (is_soh_text soh_text)
      → IsLineReading soh_text day bodies bad → IsLineReading soh_text day others other
      → (bodies ≡ others) × (bad ≡ other)

-- Each day on lines, however long and whatever text stands for SOH, has one list of messages where
-- each line is read alone.
pub record LinesAloneAreReadOnce : Type 0 where
  pub some : (soh_text day : List ℕ) → IsTrue (is_soh_text soh_text)
      → (messages : List DayMessage) × IsReadByLines soh_text day messages
  pub one : (soh_text day : List ℕ) (messages others : List DayMessage)
      → IsTrue (is_soh_text soh_text) → IsReadByLines soh_text day messages
      → IsReadByLines soh_text day others → messages ≡ others

-- A day on lines of which no message is bad has the same messages where each line is read alone.
abbrev pub GoodDaysAreReadAlike : Type 0
GoodDaysAreReadAlike =
    (soh_text day : List ℕ) (bodies : List (List ℕ)) → IsTrue (is_soh_text soh_text)
    → IsLineReading soh_text day bodies None → IsReadByLines soh_text day (map Good bodies)

-- Where SOH is given as the text for SOH, bytes stand for themselves, as without such a text.
abbrev pub SohStandsForItself : Type 0
SohStandsForItself =
    (raw more bytes : List ℕ) → StandFor (soh ∷ []) raw more bytes ↔ (raw ≡ bytes)

-- A FIX log of FIX 4.4 is read as the bodies of its messages, and no message is bad.
abbrev pub FixLogsAreDays : Type 0
FixLogsAreDays =
    (log : List ℕ) (frames : List (List ℕ)) → IsFramed log frames
    → IsFramedReading log (map body_of frames) None

-- the message of FIX 4.4 with this body, on a line of its own
abbrev pub written_line : List ℕ → List ℕ
written_line body = frame_text body ++ 10 ∷ []

-- the body is not too long for a message
abbrev pub FitsMessage : List ℕ → Type 0
FitsMessage body = length body ≤ longest_body

-- Messages that are written with these bodies, one on a line, are read as these bodies, and no
-- message is bad.
abbrev pub WrittenDaysAreRead : Type 0
WrittenDaysAreRead =
    (bodies : List (List ℕ)) → All FitsMessage bodies
    → IsFramedReading (flat_map written_line bodies) bodies None
