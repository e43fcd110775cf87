-- What a Framer stands for, and what its steps say. The relations take the headers that a message
-- may begin with; what a name with `With` says of these, the name without it says of FIX 4.4.
use Rattle.std.specs.Prelude.{◌≡◌, ◌≢◌, ℕ, ◌+◌, ◌-◌, ◌<◌, ◌≤◌, ◌^◌, ◌⊎◌, Some, List, [], ◌∷◌, ◌++◌, length, take, drop, slice_get, IsTrue}
use Rattle.std.specs.List.{list_all, slice_range}
use Rattle.fix_framing.specs.declared.framer.Framer.{Framer}
use Rattle.fix_framing.specs.declared.framer.Step.{Step}
use Rattle.fix_framing.specs.declared.framer.Step.TheVariants.{Whole, Wait, Fault}
use Rattle.fix_framing.specs.declared.frames.FrameFault.{FrameFault}
use Rattle.fix_framing.specs.declared.frames.FrameFault.TheVariants.{Truncated}
use Rattle.fix_framing.specs.Breaks.{is_line_end_byte, after_breaks}
use Rattle.fix_framing.specs.Headers.{fix44}
use Rattle.fix_framing.specs.Frames.{IsFrameWith, frame_fault_with, longest_frame_with}

-- the bytes that the framer holds
abbrev pub bytes_held : {H : Type 0} → Framer H → List ℕ
bytes_held framer = framer.bytes.items

-- how many of the bytes fed are framed
abbrev pub count_framed : {H : Type 0} → Framer H → ℕ
count_framed framer = framer.base + framer.next

-- the bytes fed that are not yet framed
abbrev pub bytes_unframed : {H : Type 0} → Framer H → List ℕ
bytes_unframed framer = drop framer.next (bytes_held framer)

-- the unframed bytes from the first one on that is neither CR nor LF
abbrev pub next_text : {H : Type 0} → Framer H → List ℕ
next_text framer = after_breaks (bytes_unframed framer)

-- the offset of that byte in the bytes fed
abbrev pub next_offset : {H : Type 0} → Framer H → ℕ
next_offset framer = framer.base + length (bytes_held framer) - length (next_text framer)

-- the text is these frames in order, each with one of these headers, with only CR and LF bytes
-- around them
abbrev pub IsFramedWith : List (List ℕ) → List ℕ → List (List ℕ) → Type 0
IsFramedWith headers text [] = IsTrue (list_all is_line_end_byte text)
IsFramedWith headers text (frame ∷ more) =
    (gap : List ℕ) × (body : List ℕ) × (rest : List ℕ)
    × IsTrue (list_all is_line_end_byte gap) × IsFrameWith headers frame body
    × (text ≡ gap ++ (frame ++ rest)) × IsFramedWith headers rest more

-- the text is these frames of FIX 4.4 in order, with only CR and LF bytes around them
abbrev pub IsFramed : List ℕ → List (List ℕ) → Type 0
IsFramed text frames = IsFramedWith fix44 text frames

-- The framer stands for these bytes fed and these frames: the bytes fed are some
-- `base` bytes followed by those that it holds, and the first `base + next` of them
-- are the frames with CR and LF around them
pub record IsFramerWith {H : Type 0} (headers : List (List ℕ)) (framer : Framer H) (fed : List ℕ)
    (frames : List (List ℕ)) : Type 0 where
  pub before : List ℕ
  pub dropped : length before ≡ framer.base
  pub whole : fed ≡ before ++ bytes_held framer
  pub within : count_framed framer ≤ length fed
  pub framed : IsFramedWith headers (take (count_framed framer) fed) frames

-- the framer stands for these bytes fed and these frames of FIX 4.4
abbrev pub IsFramerOf : {H : Type 0} → Framer H → List ℕ → List (List ℕ) → Type 0
IsFramerOf framer fed frames = IsFramerWith fix44 framer fed frames

-- the offset, in any bytes fed that the framer stands for, of the first
-- unframed byte that is neither CR nor LF
pub record IsNextOffset {H : Type 0} (headers : List (List ℕ)) (framer : Framer H) (at : ℕ)
    : Type 0 where
  pub counted : at ≡ next_offset framer
  pub there : (fed : List ℕ) (frames : List (List ℕ))
      → IsFramerWith headers framer fed frames → drop at fed ≡ next_text framer

-- the framer has room for the piece: it stands for bytes that are with it fewer than 2^64
pub record FramerHasRoom {H : Type 0} (headers : List (List ℕ)) (framer : Framer H)
    (piece : List ℕ) : Type 0 where
  pub fed : List ℕ
  pub frames : List (List ℕ)
  pub stands : IsFramerWith headers framer fed frames
  pub most : length fed + length piece < 2 ^ 64

-- what the old framer stands for, the new one stands for with the piece after it
abbrev pub FeedsPiece : {H : Type 0} → List (List ℕ) → Framer H → Framer H → List ℕ → Type 0
FeedsPiece headers old new piece =
    (fed : List ℕ) (frames : List (List ℕ))
    → IsFramerWith headers old fed frames → IsFramerWith headers new (fed ++ piece) frames

-- the piece is appended to what was unframed, and nothing more is framed
abbrev pub AppendsUnframed : {H : Type 0} → Framer H → Framer H → List ℕ → Type 0
AppendsUnframed old new piece =
    (bytes_unframed new ≡ bytes_unframed old ++ piece) × (count_framed new ≡ count_framed old)

-- what the old framer stands for, the new one stands for
abbrev pub KeepsFraming : {H : Type 0} → List (List ℕ) → Framer H → Framer H → Type 0
KeepsFraming headers old new =
    (fed : List ℕ) (frames : List (List ℕ)) → IsFramerWith headers old fed frames
    → IsFramerWith headers new fed frames

-- Whole: after CR and LF alone is the next frame of the bytes fed, from start on.
-- Its body runs from `body` to `to` in the bytes held, and it ends at `to + 7`
-- there. It is appended to the frames
pub record GivesFrame {H : Type 0} (headers : List (List ℕ)) (old new : Framer H)
    (start body to : ℕ) : Type 0 where
  pub gap : List ℕ
  pub frame : List ℕ
  pub next : bytes_unframed old ≡ gap ++ (frame ++ bytes_unframed new)
  pub breaks : IsTrue (list_all is_line_end_byte gap)
  pub message : IsFrameWith headers frame (slice_range (bytes_held new) body to)
  pub begins : start ≡ count_framed old + length gap
  pub ordered : body ≤ to
  pub inside : to + 7 ≤ length (bytes_held new)
  pub ends : start + length frame ≡ new.base + to + 7
  pub shorter : length (bytes_unframed new) < length (bytes_unframed old)
  pub appends : (fed : List ℕ) (frames : List (List ℕ)) → IsFramerWith headers old fed frames
      → IsFramerWith headers new fed (frames ++ frame ∷ [])
      × (slice_range fed start (start + length frame) ≡ frame)

-- Wait: the unframed bytes are CR and LF alone, or end within a message
abbrev pub IsUnfinished : {H : Type 0} → List (List ℕ) → Framer H → Type 0
IsUnfinished headers framer =
    IsTrue (list_all is_line_end_byte (bytes_unframed framer))
    ⊎ (frame_fault_with headers (next_text framer) ≡ Some Truncated)

-- After it the framer holds fewer bytes than the longest message has, and they end with the last
-- byte fed, where anything is unframed but CR and LF
pub record Waits {H : Type 0} (headers : List (List ℕ)) (old new : Framer H) : Type 0 where
  pub unfinished : IsUnfinished headers old
  pub keeps : KeepsFraming headers old new
  pub bound : length (bytes_held new) < longest_frame_with headers
  pub text : next_text new ≡ next_text old
  pub last : (fed : List ℕ) (frames : List (List ℕ)) → IsFramerWith headers old fed frames
      → ¬ IsTrue (list_all is_line_end_byte (bytes_unframed old)) → (0 < length (bytes_held new))
      × (slice_get (bytes_held new) (length (bytes_held new) - 1) ≡ slice_get fed (length fed - 1))

-- Fault: from `at` on, the first byte after CR and LF, the bytes fail a test,
-- whatever follows them. Nothing changes
pub record RefusesFrame {H : Type 0} (headers : List (List ℕ)) (old new : Framer H) (at : ℕ)
    (fault : FrameFault) : Type 0 where
  pub failing : frame_fault_with headers (next_text old) ≡ Some fault
  pub bad : fault ≢ Truncated
  pub place : IsNextOffset headers old at
  pub stays : (more : List ℕ) → frame_fault_with headers (next_text old ++ more) ≡ Some fault
  pub again : new ≡ old

-- what a step says of the framer before and after it
abbrev pub StepSays : {H : Type 0} → List (List ℕ) → Framer H → Framer H → Step → Type 0
StepSays headers old new (Whole start body to) = GivesFrame headers old new start body to
StepSays headers old new Wait = Waits headers old new
StepSays headers old new (Fault at fault) = RefusesFrame headers old new at fault

-- the step is Whole
abbrev pub IsWholeFrame : Step → Type 0
IsWholeFrame (Whole start body to) = Unit {0}
IsWholeFrame Wait = ⊥
IsWholeFrame (Fault at fault) = ⊥
