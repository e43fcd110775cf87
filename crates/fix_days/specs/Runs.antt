-- Runs of bytes of a line, each of which stands for one byte.
use Rattle.std.specs.Prelude.{◌≡◌, ℕ, ◌≤◌, Bool, false, not, ◌==◌, ◌&&◌, List, [], ◌∷◌, ◌++◌, length, take, map, IsTrue, if◌then◌else◌}
use Rattle.std.specs.List.{list_all}
use Rattle.audit_base.specs.Sizes.{soh}

-- the byte, whatever follows it, neither ends the line nor begins a longer text for SOH
abbrev pub stands_alone : List ℕ → ℕ → Bool
stands_alone (first ∷ second ∷ rest) byte = not (byte == 10) && not (byte == first)
stands_alone soh_text byte = not (byte == 10)

-- what such a byte stands for: SOH, where it is the text for SOH, and else itself
abbrev pub byte_alone : List ℕ → ℕ → ℕ
byte_alone (only ∷ []) byte = if byte == only then soh else byte
byte_alone soh_text byte = byte

-- each of these bytes stands for one
abbrev pub IsRun : List ℕ → List ℕ → Type 0
IsRun soh_text bytes = IsTrue (list_all (stands_alone soh_text) bytes)

-- Each of the first bytes of the text, so many of them, stands for one.
pub record IsRunUpTo (soh_text text : List ℕ) (size : ℕ) : Type 0 where
  pub inside : size ≤ length text
  pub run : IsRun soh_text (take size text)

-- The same, where the text for SOH is longer than one byte: at most 16 bytes of a text that has 16.
pub record IsNearRun (soh_text text : List ℕ) (size : ℕ) : Type 0 where
  pub longer : (length soh_text == 1) ≡ false
  pub near : size ≤ 16
  pub room : 16 ≤ length text
  pub is : IsRunUpTo soh_text text size

-- What was appended is what the first bytes of the text, so many of them, stand for, one each.
pub record AppendsRun (soh_text text old new : List ℕ) (size : ℕ) : Type 0 where
  pub is : IsRunUpTo soh_text text size
  pub appended : new ≡ old ++ map (byte_alone soh_text) (take size text)
