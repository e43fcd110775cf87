-- How far bytes of a line are undressed.
use Rattle.std.specs.Prelude.{◌≡◌, ℕ, ◌+◌, ◌<◌, ◌≤◌, Bool, true, false, List, [], ◌++◌, length, take, drop, IsTrue}
use Rattle.fix_days.specs.declared.undressing.UndressedTo.{UndressedTo}
use Rattle.fix_days.specs.declared.undressing.UndressedTo.TheVariants as reached
use Rattle.fix_days.specs.Lines.{HasNoLineEnd, IsUnit, StandFor, ends_line}

-- these bytes may follow: none where the day has ended
abbrev pub MayFollow : Bool → List ℕ → Type 0
MayFollow ended more = ended ≡ true → more ≡ []

-- From one place of the text up to another, on one line, it stands for these bytes, where `more`
-- is after the text.
pub record Undressed (soh text : List ℕ) (at : ℕ) (more : List ℕ) (to : ℕ) (bytes : List ℕ)
    : Type 0 where
  pub raw : List ℕ
  pub cut : drop at text ≡ raw ++ drop to text
  pub reaches : to ≡ at + length raw
  pub inside : to ≤ length text
  pub one_line : HasNoLineEnd raw
  pub stands : StandFor soh raw (drop to text ++ more) bytes

-- the same, whatever may follow the text
abbrev pub IsUndressed : List ℕ → List ℕ → ℕ → Bool → ℕ → List ℕ → Type 0
IsUndressed soh text at ended to bytes =
    (more : List ℕ) → MayFollow ended more → Undressed soh text at more to bytes

-- why no more was undressed: there are so many bytes, or the line ends there, or more may come
abbrev pub IsReached : List ℕ → ℕ → Bool → ℕ → List ℕ → UndressedTo → Type 0
IsReached text count ended to out reached.Count = count ≤ length out
IsReached text count ended to out reached.LineEnd =
    (more : List ℕ) → MayFollow ended more → IsTrue (ends_line (drop to text ++ more))
IsReached text count ended to out reached.Held = ended ≡ false

-- What was appended is what the text stands for from `at` up to `to`.
pub record Undresses (soh text : List ℕ) (at : ℕ) (ended : Bool) (old new : List ℕ) (to : ℕ)
    : Type 0 where
  pub bytes : List ℕ
  pub appended : new ≡ old ++ bytes
  pub inside : to ≤ length text
  pub undressed : IsUndressed soh text at ended to bytes

-- The text is undressed from this place on to at least so many bytes.
pub record HasUndressed (soh text : List ℕ) (at count : ℕ) : Type 0 where
  pub more : List ℕ
  pub to : ℕ
  pub bytes : List ℕ
  pub is : Undressed soh text at more to bytes
  pub enough : count ≤ length bytes

-- The first bytes of the text, so many of them, stand for this byte, whatever may follow.
pub record IsNextUnit (soh text : List ℕ) (ended : Bool) (byte size : ℕ) : Type 0 where
  pub some : 0 < size
  pub inside : size ≤ length text
  pub one_line : HasNoLineEnd (take size text)
  pub is : (more : List ℕ) → MayFollow ended more
      → IsUnit soh (take size text) (drop size text ++ more) byte []

-- why no byte is known: the line ends there, or more may come
abbrev pub StopsUnits : List ℕ → Bool → UndressedTo → Type 0
StopsUnits text ended reached.Count = ⊥
StopsUnits text ended reached.LineEnd =
    (more : List ℕ) → MayFollow ended more → IsTrue (ends_line (text ++ more))
StopsUnits text ended reached.Held = ended ≡ false
