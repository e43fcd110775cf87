-- Where numbers lie on a straight axis.
use Rattle.std.specs.Prelude.{◌<◌, ◌≤◌, ◌*◌, ◌-◌, ◌/◌, ◌^◌, ◌||◌, ◌==◌, ℕ, nat_le, if◌then◌else◌}
use Rattle.page_plots.specs.declared.axes.Axis.{Axis}

-- the numbers and the length of an axis are not too great
pub record IsAxis (axis : Axis) : Type 0 where
  pub numbers : axis.last < 2 ^ 112
  pub length : axis.length ≤ 10000

-- the same share of a length that a part is of a whole, rounded down
abbrev pub share_of : ℕ → ℕ → ℕ → ℕ
share_of part whole length = if whole == 0 then 0 else part * length / whole

-- how far from its start a number lies on an axis: at the start up to its first number, at the end
-- from its last number on, and evenly between them
abbrev pub point_of : Axis → ℕ → ℕ
point_of axis number =
    if nat_le number axis.first || nat_le axis.last axis.first then 0
    else (if nat_le axis.last number then axis.length
    else share_of (number - axis.first) (axis.last - axis.first) axis.length)
