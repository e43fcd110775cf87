-- Names one after another in a row of bytes.
use Rattle.std.specs.Prelude.{◌≡◌, ℕ, List, ◌∷◌, [], ◌++◌, take, drop, if◌then◌else◌}
use Rattle.audit_base.specs.Names.{is_name}

-- the bytes from a start on, as many as there are to be
abbrev pub part_of : List ℕ → ℕ → ℕ → List ℕ
part_of bytes start size = take size (drop start bytes)

-- a part of the bytes as a name; where it is none, `?`
abbrev pub name_at : List ℕ → ℕ → ℕ → List ℕ
name_at bytes start size =
    if is_name (part_of bytes start size) then part_of bytes start size else 63 ∷ []

-- the bytes have others behind them
pub record HasMoreBytes (old new : List ℕ) : Type 0 where
  pub more : List ℕ
  pub is : new ≡ old ++ more
