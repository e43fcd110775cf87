-- The laws of plain days, in one sentence each.
use Rattle.std.specs.Prelude.{◌≡◌, ℕ, All, IsTrue, List, map, None, Option}
use Rattle.fix_days.specs.declared.faults.BadMessage.{BadMessage}
use Rattle.fix_days.specs.Framed.{IsFramedReading}
use Rattle.fix_days.specs.Laws.{FitsMessage}
use Rattle.fix_days.specs.Lines.{is_soh_text, IsLineReading}
use Rattle.fix_framing.specs.Frames.{body_of}
use Rattle.fix_framing.specs.Framing.{IsFramed}
use Rattle.plain_logs.specs.LinesAlone.{IsReadWithoutBad}
use Rattle.plain_logs.specs.PlainTexts.{IsPlainText, plain_text}

-- each body that is read of a framed day fits a message
abbrev pub FramedBodiesFit : Type 0
FramedBodiesFit = (day : List ℕ) (bodies : List (List ℕ)) (bad : Option BadMessage)
    → IsFramedReading day bodies bad → All FitsMessage bodies

-- each body that is read of a day on lines fits a message
abbrev pub LineBodiesFit : Type 0
LineBodiesFit = (soh_text day : List ℕ) (bodies : List (List ℕ)) (bad : Option BadMessage)
    → IsLineReading soh_text day bodies bad → All FitsMessage bodies

-- The plain text of a day, in either dress, is read again as the bodies that were read of the day,
-- and no message is bad.
pub record PlainIsRead : Type 0 where
  pub framed : (day : List ℕ) (bodies : List (List ℕ)) (bad : Option BadMessage)
      → IsFramedReading day bodies bad → IsFramedReading (plain_text bodies) bodies None
  pub on_lines : (soh_text day : List ℕ) (bodies : List (List ℕ)) (bad : Option BadMessage)
      → IsLineReading soh_text day bodies bad → IsFramedReading (plain_text bodies) bodies None

-- The plain text of a plain text, in either dress, is the same text, and no message is bad.
pub record PlainOfPlain : Type 0 where
  pub framed : (day text again : List ℕ) (bad other : Option BadMessage)
      → IsPlainText (IsFramedReading day) text bad → IsPlainText (IsFramedReading text) again other
      → (again ≡ text) × (other ≡ None)
  pub on_lines : (soh_text day text again : List ℕ) (bad other : Option BadMessage)
      → IsPlainText (IsLineReading soh_text day) text bad
      → IsPlainText (IsFramedReading text) again other → (again ≡ text) × (other ≡ None)

-- the plain text of a FIX log of FIX 4.4 is that of the bodies of its messages, and no message is
-- bad
abbrev pub PlainOfFixLogs : Type 0
PlainOfFixLogs = (log text : List ℕ) (frames : List (List ℕ)) (bad : Option BadMessage)
    → IsFramed log frames → IsPlainText (IsFramedReading log) text bad
    → (text ≡ plain_text (map body_of frames)) × (bad ≡ None)

-- The plain text of the good messages of a day on lines is read again as their bodies, and no
-- message is bad.
abbrev pub GoodMessagesAreRead : Type 0
GoodMessagesAreRead = (soh_text day : List ℕ) (bodies : List (List ℕ)) (bad : Option BadMessage)
    → IsReadWithoutBad soh_text day bodies bad → IsFramedReading (plain_text bodies) bodies None

-- Of a day on lines without a bad message the same bodies are read where bad ones are left out.
abbrev pub GoodDaysAreWrittenAlike : Type 0
GoodDaysAreWrittenAlike = (soh_text day : List ℕ) (bodies : List (List ℕ))
    → IsTrue (is_soh_text soh_text) → IsLineReading soh_text day bodies None
    → IsReadWithoutBad soh_text day bodies None
