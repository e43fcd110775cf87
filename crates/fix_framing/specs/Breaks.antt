-- The bytes CR and LF that may be around messages.
use Rattle.std.specs.Prelude.{ℕ, Bool, ◌||◌, ◌==◌, List, [], ◌∷◌, if◌then◌else◌}

-- a CR (13) or an LF (10)
abbrev pub is_line_end_byte : ℕ → Bool
is_line_end_byte byte = byte == 13 || byte == 10

-- the bytes from the first one on that is neither CR nor LF
abbrev pub after_breaks : List ℕ → List ℕ
after_breaks [] = []
after_breaks (byte ∷ more) = if is_line_end_byte byte then after_breaks more else byte ∷ more
