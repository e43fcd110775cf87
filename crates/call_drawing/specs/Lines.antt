-- The lines of the picture of a call: the volume, the greatest volume, and the one price.
use Rattle.std.specs.Prelude.{ℕ, List, [], ◌++◌, Option, None, Some, codes, decimal}
use Rattle.audit_base.specs.declared.findings.Short.{Short}
use Rattle.audit_base.specs.Numbers.{price_text}
use Rattle.call_drawing.specs.declared.layouts.UprightLine.{UprightLine}
use Rattle.page_plots.specs.declared.shapes.Anchor.TheVariants.{End}
use Rattle.page_plots.specs.PlotLines.{line_across, worded_line}
use Rattle.page_plots.specs.Shapes.{label}

-- the upper end of the line of the volume, with its words over it, in the row above the plot
abbrev pub volume_top : ℕ
volume_top = 33

-- the upper end of the line of the greatest volume: its words are in a row above those
abbrev pub greatest_top : ℕ
greatest_top = 16

-- where the words of the one price end, right before the right end of the plot
abbrev pub price_words_end : ℕ
price_words_end = 464

-- an upright line at a quantity, with these words and the quantity over it
abbrev pub quantity_line : List ℕ → List ℕ → ℕ → UprightLine → ℕ → List ℕ
quantity_line class words top at quantity =
    worded_line class (record { x = at.x; y = top }) top at.anchor (words ++ decimal quantity)

-- the volume that was traded
abbrev pub volume_shapes : UprightLine → ℕ → List ℕ
volume_shapes at volume = quantity_line (codes "volume") (codes "traded ") volume_top at volume

-- the greatest volume, where the finding tells it
abbrev pub greatest_shapes : UprightLine → Option Short → List ℕ
greatest_shapes at None = []
greatest_shapes at (Some short) =
    quantity_line (codes "greatest") (codes "possible ") greatest_top at short.greatest

-- the line of a price
abbrev pub price_line : ℕ → ℕ → List ℕ
price_line y price = line_across (codes "price") y
    ++ label (codes "label") (record { x = price_words_end; y = y }) End (price_text price)

-- the one price of the trades, where the rule asks for one and there are some
abbrev pub price_shapes : ℕ → Option ℕ → List ℕ
price_shapes y None = []
price_shapes y (Some price) = price_line y price
