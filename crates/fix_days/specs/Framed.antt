-- What is read of a day whose messages are framed: one after another, with CR and LF between them,
-- as in a FIX log, of FIX 4.0 to 4.4 or FIXT 1.1, each of its own version.
use Rattle.std.specs.Prelude.{◌≡◌, ℕ, ◌+◌, Bool, false, not, nat_eq, map, Option, Some, None, List, [], ◌∷◌, ◌++◌, length, drop, IsTrue, if◌then◌else◌}
use Rattle.std.specs.List.{starts_with}
use Rattle.fix_framing.specs.Breaks.{is_line_end_byte}
use Rattle.fix_framing.specs.Headers.{any_version}
use Rattle.fix_framing.specs.Frames.{body_of_with, frame_fault_with}
use Rattle.fix_framing.specs.Framing.{IsFramedWith}
use Rattle.fix_days.specs.declared.faults.BadMessage.{BadMessage}

-- the bodies of these messages
abbrev pub bodies_of : List (List ℕ) → List (List ℕ)
bodies_of frames = map (body_of_with any_version) frames

-- The text is messages, with only CR and LF around them, and these are their bodies.
pub record HasBodies (text : List ℕ) (bodies : List (List ℕ)) : Type 0 where
  pub frames : List (List ℕ)
  pub framed : IsFramedWith any_version text frames
  pub are : bodies ≡ bodies_of frames

-- the text begins with a byte that is neither CR nor LF
abbrev pub begins_past_breaks : List ℕ → Bool
begins_past_breaks [] = false
begins_past_breaks (byte ∷ rest) = not (is_line_end_byte byte)

-- The message is bad: after messages with these bodies, and CR and LF, comes another byte at which
-- no message begins. The place is one more than the number of messages before it, the offset that
-- of this byte, where `start` bytes are before the text, and the fault the first test that fails
-- there.
pub record IsBadText (start : ℕ) (text : List ℕ) (bodies : List (List ℕ)) (bad : BadMessage)
    : Type 0 where
  pub front : List ℕ
  pub left : List ℕ
  pub cut : text ≡ front ++ left
  pub before : HasBodies front bodies
  pub begins : IsTrue (begins_past_breaks left)
  pub fails : frame_fault_with any_version left ≡ Some bad.fault
  pub place : bad.place ≡ length bodies + 1
  pub offset : bad.offset ≡ start + length front

-- the byte order mark of UTF-8
abbrev pub mark : List ℕ
mark = 239 ∷ 187 ∷ 191 ∷ []

-- the mark that the day begins with: its three bytes, or none
abbrev pub mark_of : List ℕ → List ℕ
mark_of day = if starts_with nat_eq day mark then mark else []

-- the day without the mark that it may begin with
abbrev pub after_mark : List ℕ → List ℕ
after_mark day = drop (length (mark_of day)) day

-- The reading of a text: the bodies of its messages up to the first bad one, and that one, if
-- there is one. `start` bytes are before the text.
abbrev pub IsTextReading : ℕ → List ℕ → List (List ℕ) → Option BadMessage → Type 0
IsTextReading start text bodies None = HasBodies text bodies
IsTextReading start text bodies (Some bad) = IsBadText start text bodies bad

-- The reading of a framed day: that of what is after a mark at its start.
abbrev pub IsFramedReading : List ℕ → List (List ℕ) → Option BadMessage → Type 0
IsFramedReading day bodies bad =
    IsTextReading (length (mark_of day)) (after_mark day) bodies bad
