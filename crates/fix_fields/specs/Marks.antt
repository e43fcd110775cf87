-- Which of 64 bytes of a text are SOH, as the bits of a number.
use Rattle.std.specs.Prelude.{◌≡◌, ℕ, ◌+◌, ◌<◌, List}
use Rattle.std.specs.Int.{bit_at}
use Rattle.memchr.specs.Find.{Passes, is_byte}
use Rattle.audit_base.specs.Sizes.{soh}

-- the byte of the text at this place is SOH
abbrev pub IsEnd : List ℕ → ℕ → Type 0
IsEnd text = Passes (is_byte soh) text

-- bit k says whether the byte at `start + k` is SOH, for k below 64, and no other bit is set
pub record AreMarks (text : List ℕ) (start marks : ℕ) : Type 0 where
  pub each : (k : ℕ) → k < 64 → IsEnd text (start + k) → bit_at marks k ≡ 1
  pub only : (k : ℕ) → bit_at marks k ≡ 1 → (k < 64) × IsEnd text (start + k)
