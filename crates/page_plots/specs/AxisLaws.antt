-- The laws of axes, in one sentence each.
use Rattle.std.specs.Prelude.{◌≤◌, ℕ}
use Rattle.page_plots.specs.declared.axes.Axis.{Axis}
use Rattle.page_plots.specs.Axes.{point_of}

-- a greater number lies no nearer to the start of an axis
abbrev pub NumbersKeepTheirOrder : Type 0
NumbersKeepTheirOrder = (axis : Axis) (number other : ℕ) → number ≤ other
    → point_of axis number ≤ point_of axis other
