-- What is read of a day whose messages stand on lines, after anything, and in which a text stands
-- for SOH. A line ends at LF, or with the day.
use Rattle.std.specs.Prelude.{◌≡◌, ◌⊎◌, ℕ, zero, suc, ◌+◌, ◌<◌, Bool, false, true, not, ◌==◌, ◌&&◌, ◌||◌, nat_eq, nat_le, Option, Some, None, List, [], ◌∷◌, ◌++◌, length, drop, slice_index, codes, IsTrue}
use Rattle.std.specs.List.{list_all, starts_with}
use Rattle.std.specs.Char.{is_ascii_digit}
use Rattle.audit_base.specs.Sizes.{soh}
use Rattle.fix_framing.specs.Headers.{any_version}
use Rattle.fix_framing.specs.Frames.{IsFrameWith, frame_fault_with}
use Rattle.fix_framing.specs.declared.frames.FrameFault.{FrameFault}
use Rattle.fix_days.specs.declared.faults.BadMessage.{BadMessage}

-- from 0x21 to 0x7E
abbrev pub is_graphic : ℕ → Bool
is_graphic byte = nat_le 33 byte && nat_le byte 126

-- what may stand for SOH: one to five such bytes, or SOH itself
abbrev pub is_soh_text : List ℕ → Bool
is_soh_text text =
    nat_le 1 (length text) && nat_le (length text) 5
    && (list_all is_graphic text || starts_with nat_eq (soh ∷ []) text)

-- `8=FIX`, and then `.` or `T`
abbrev pub begins_message : List ℕ → Bool
begins_message text =
    starts_with nat_eq text (codes "8=FIX.") || starts_with nat_eq text (codes "8=FIXT")

-- a digit stands right before the place
abbrev pub follows_digit : List ℕ → ℕ → Bool
follows_digit text zero = false
follows_digit text (suc before) = is_ascii_digit (slice_index text before)

-- a beginning: `8=FIX` and `.` or `T` stand at the place, and no digit right before it
abbrev pub is_beginning : List ℕ → ℕ → Bool
is_beginning text place = begins_message (drop place text) && not (follows_digit text place)

-- no beginning is below the place
abbrev pub HasNoBeginningBelow : List ℕ → ℕ → Type 0
HasNoBeginningBelow text place = (k : ℕ) → k < place → is_beginning text k ≡ false

-- The text up to the first beginning, and the text from there on.
pub record FirstBeginning (text before from : List ℕ) : Type 0 where
  pub cut : text ≡ before ++ from
  pub is : IsTrue (is_beginning text (length before))
  pub first : HasNoBeginningBelow text (length before)

-- The byte is what the first of these bytes stand for: SOH, where the text for SOH stands there,
-- and else the first of them itself; `rest` is after them, and `more` after that.
abbrev pub IsUnit : List ℕ → List ℕ → List ℕ → ℕ → List ℕ → Type 0
IsUnit soh_text raw more byte rest =
    ((raw ≡ soh_text ++ rest) × (byte ≡ soh))
    ⊎ ((raw ≡ byte ∷ rest) × (starts_with nat_eq (raw ++ more) soh_text ≡ false))

-- these bytes are what the raw ones stand for, from left to right, where `more` is after them
abbrev pub StandFor : List ℕ → List ℕ → List ℕ → List ℕ → Type 0
StandFor soh_text raw more [] = raw ≡ []
StandFor soh_text raw more (byte ∷ bytes) =
    (rest : List ℕ) × IsUnit soh_text raw more byte rest × StandFor soh_text rest more bytes

-- no byte of it is LF
abbrev pub HasNoLineEnd : List ℕ → Type 0
HasNoLineEnd text = IsTrue (list_all (λ byte. not (byte == 10)) text)

-- the text begins with LF, or has ended
abbrev pub ends_line : List ℕ → Bool
ends_line [] = true
ends_line (byte ∷ rest) = byte == 10

-- The text begins, on one line, with bytes that stand for a message with this body; `rest` is
-- after them.
pub record BeginsWithMessage (soh_text text body rest : List ℕ) : Type 0 where
  pub raw : List ℕ
  pub cut : text ≡ raw ++ rest
  pub one_line : HasNoLineEnd raw
  pub frame : List ℕ
  pub stands : StandFor soh_text raw rest frame
  pub message : IsFrameWith any_version frame body

-- The first line of the text stands for bytes at which no message begins: the fault is the first
-- test that they fail.
pub record BeginsWithFault (soh_text text : List ℕ) (fault : FrameFault) : Type 0 where
  pub line : List ℕ
  pub later : List ℕ
  pub cut : text ≡ line ++ later
  pub one_line : HasNoLineEnd line
  pub ends : IsTrue (ends_line later)
  pub bytes : List ℕ
  pub stands : StandFor soh_text line later bytes
  pub fails : frame_fault_with any_version bytes ≡ Some fault

-- What is left of a day after messages with these bodies: at its first beginning stands the first
-- of them, and what is after that message is searched for the others as the day is.
abbrev pub IsLeftAfter : List ℕ → List ℕ → List (List ℕ) → List ℕ → Type 0
IsLeftAfter soh_text day [] left = left ≡ day
IsLeftAfter soh_text day (body ∷ bodies) left =
    (before : List ℕ) × (from : List ℕ) × (rest : List ℕ) × FirstBeginning day before from
    × BeginsWithMessage soh_text from body rest × IsLeftAfter soh_text rest bodies left

-- The bodies of a day: after its messages there is no beginning.
pub record HasBodiesOnLines (soh_text day : List ℕ) (bodies : List (List ℕ)) : Type 0 where
  pub left : List ℕ
  pub messages : IsLeftAfter soh_text day bodies left
  pub none : HasNoBeginningBelow left (length left)

-- The message is bad: after messages with these bodies, at the next beginning, no message begins.
-- The place is one more than the number of messages before it, the offset that of the beginning in
-- the day, and the fault the first test that fails there.
pub record IsBadOnLines (soh_text day : List ℕ) (bodies : List (List ℕ)) (bad : BadMessage)
    : Type 0 where
  pub left : List ℕ
  pub messages : IsLeftAfter soh_text day bodies left
  pub before : List ℕ
  pub from : List ℕ
  pub begins : FirstBeginning left before from
  pub fails : BeginsWithFault soh_text from bad.fault
  pub place : bad.place ≡ length bodies + 1
  pub offset : bad.offset + length from ≡ length day

-- The reading of a day on lines, where this text stands for SOH: the bodies of its messages up to
-- the first bad one, and that one, if there is one.
abbrev pub IsLineReading : List ℕ → List ℕ → List (List ℕ) → Option BadMessage → Type 0
IsLineReading soh_text day bodies None = HasBodiesOnLines soh_text day bodies
IsLineReading soh_text day bodies (Some bad) = IsBadOnLines soh_text day bodies bad
