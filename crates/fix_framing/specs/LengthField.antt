-- The digits of the body's length, and the SOH after them.
use Rattle.std.specs.Prelude.{◌≡◌, ℕ, ◌≤◌, ◌<◌, List, length, take, slice_index, IsTrue}
use Rattle.std.specs.List.{list_all}
use Rattle.std.specs.Char.{is_ascii_digit}
use Rattle.audit_base.specs.Sizes.{soh}

-- SOH follows this many digits, from 1 to 9
pub record IsLengthField (text : List ℕ) (count : ℕ) : Type 0 where
  pub positive : 0 < count
  pub at_most_nine : count ≤ 9
  pub inside : count < length text
  pub each : IsTrue (list_all is_ascii_digit (take count text))
  pub ended : slice_index text count ≡ soh
