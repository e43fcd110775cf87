-- What a look at a message says.
use Rattle.std.specs.Prelude.{◌≡◌, ℕ, ◌+◌, ◌≤◌, Bool, false, Option, Some, None, List, ◌++◌, length, take, drop, MatchOption}
use Rattle.std.specs.List.{slice_range}
use Rattle.fix_framing.specs.Headers.{any_version}
use Rattle.fix_framing.specs.Frames.{frame_fault_with}
use Rattle.fix_framing.specs.declared.frames.FrameFault.{FrameFault}
use Rattle.fix_framing.specs.declared.frames.FrameFault.TheVariants as frame
use Rattle.fix_days.specs.declared.looking.Look.{Look}
use Rattle.fix_days.specs.declared.looking.Look.TheVariants as look
use Rattle.fix_days.specs.declared.undressing.UndressedTo.{UndressedTo}
use Rattle.fix_days.specs.declared.undressing.UndressedTo.TheVariants as reached
use Rattle.fix_days.specs.Lines.{BeginsWithFault, BeginsWithMessage}
use Rattle.fix_days.specs.Undressings.{IsReached, IsUndressed, MayFollow, Undressed}

-- what a fault says: nothing, where more bytes can be undressed
abbrev pub refusal : FrameFault → UndressedTo → Option Look
refusal frame.Begin why = Some (look.Fault frame.Begin)
refusal frame.Length why = Some (look.Fault frame.Length)
refusal frame.Truncated reached.Count = None
refusal frame.Truncated reached.LineEnd = Some (look.Fault frame.Truncated)
refusal frame.Truncated reached.Held = Some look.Wait
refusal frame.Trailer why = Some (look.Fault frame.Trailer)
refusal frame.Checksum why = Some (look.Fault frame.Checksum)

-- Whatever may follow the bytes held, from `place` to `end` they stand for a message, and its body
-- runs from `body` to `to` in what they stand for.
pub record IsMessageAt (soh held : List ℕ) (place : ℕ) (ended : Bool) (message : List ℕ)
    (body to end : ℕ) : Type 0 where
  pub ordered : body ≤ to
  pub inside : to ≤ length message
  pub later : place + 9 ≤ end
  pub within : end ≤ length held
  pub each : (more : List ℕ) → MayFollow ended more
      → BeginsWithMessage soh (drop place held ++ more) (slice_range message body to)
      (drop end held ++ more)

-- what a look says, whatever may follow the bytes held
abbrev pub LookSays : List ℕ → List ℕ → ℕ → Bool → List ℕ → Look → Type 0
LookSays soh held place ended message (look.Message body to end) =
    IsMessageAt soh held place ended message body to end
LookSays soh held place ended message look.Wait = ended ≡ false
LookSays soh held place ended message (look.Fault fault) =
    (more : List ℕ) → MayFollow ended more
    → BeginsWithFault soh (drop place held ++ more) fault

-- more bytes are needed, and can be undressed
pub record NeedsMore (message : List ℕ) (why : UndressedTo) : Type 0 where
  pub cut : frame_fault_with any_version message ≡ Some frame.Truncated
  pub count : why ≡ reached.Count

-- up to `end` the bytes held stand for the first `count` of those for which they stand up to `to`
abbrev pub EndsFront : List ℕ → List ℕ → ℕ → List ℕ → ℕ → ℕ → ℕ → Type 0
EndsFront soh held place message to count end =
    (more : List ℕ) → Undressed soh held place more to message
    → Undressed soh held place more end (take count message)

-- the bytes, undressed up to this place, are answered as a look is
abbrev pub AnswersLook : List ℕ → List ℕ → ℕ → List ℕ → ℕ → UndressedTo → Option Look → Type 0
AnswersLook soh held place message to why result =
    (count : ℕ) (ended : Bool) → IsUndressed soh held place ended to message
    → to ≤ length held → IsReached held count ended to message why
    → MatchOption result (NeedsMore message why) (LookSays soh held place ended message)
