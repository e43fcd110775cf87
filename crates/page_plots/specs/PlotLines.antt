-- Lines of a plot: across it, and upright with words over them.
use Rattle.std.specs.Prelude.{ℕ, List, ◌++◌, codes}
use Rattle.page_plots.specs.declared.shapes.Anchor.{Anchor}
use Rattle.page_plots.specs.declared.shapes.Point.{Point}
use Rattle.page_plots.specs.Measures.{left_end, lower_end, right_end}
use Rattle.page_plots.specs.Shapes.{label, straight_line}

-- a line across the plot, so far from the top of the paper
abbrev pub line_across : List ℕ → ℕ → List ℕ
line_across class y =
    straight_line class (record { x = left_end; y = y }) (record { x = right_end; y = y })

-- an upright line, from a point to the lower end of the plot, and words over it with this foot
abbrev pub worded_line : List ℕ → Point → ℕ → Anchor → List ℕ → List ℕ
worded_line class from foot anchor words =
    straight_line class from (record { x = from.x; y = lower_end })
    ++ label (codes "label") (record { x = from.x; y = foot }) anchor words
