-- What is drawn of the offending place in a plot: an upright line, and over it its number and the
-- property that is broken.
use Rattle.std.specs.Prelude.{ℕ, nat_lt, List, [], ◌++◌, Option, None, Some, codes, decimal, if◌then◌else◌}
use Rattle.audit_base.specs.Words.{property_word}
use Rattle.continuous_drawing.specs.declared.offending.OffendingPlace.{OffendingPlace}
use Rattle.page_plots.specs.declared.plots.Plot.{Plot}
use Rattle.page_plots.specs.declared.shapes.Anchor.{Anchor}
use Rattle.page_plots.specs.declared.shapes.Anchor.TheVariants.{Start, End}
use Rattle.page_plots.specs.Measures.{upper_end}
use Rattle.page_plots.specs.PlotLines.{worded_line}
use Rattle.page_plots.specs.Plots.{x_of}

-- the place of an offence, if there is one
abbrev pub place_of_offence : Option OffendingPlace → Option ℕ
place_of_offence None = None
place_of_offence (Some offence) = Some offence.place

-- the words over the line: record PLACE: PROPERTY
abbrev pub words_of : OffendingPlace → List ℕ
words_of offence =
    codes "record " ++ decimal offence.place ++ codes ": " ++ property_word offence.property

-- the middle of the plot: left of it words begin at an upright line, from it on they end there
abbrev pub middle : ℕ
middle = 268

-- the foot of the words over the line, right above the plot
abbrev pub words_foot : ℕ
words_foot = 40

-- which point of its words stands at an upright line, so that they stay within the paper
abbrev pub anchor_beside : ℕ → Anchor
anchor_beside x = if nat_lt x middle then Start else End

-- an upright line, from the top of the plot to its bottom, and the words over it
abbrev pub line_and_words : ℕ → OffendingPlace → List ℕ
line_and_words x offence = worded_line (codes "mark") (record { x = x; y = upper_end }) words_foot
    (anchor_beside x) (words_of offence)

-- the line of an offence, at its place
abbrev pub offence_shapes : Plot → OffendingPlace → List ℕ
offence_shapes plot offence = line_and_words (x_of plot offence.place) offence

-- the same, where there is an offence
abbrev pub offending_shapes : Plot → Option OffendingPlace → List ℕ
offending_shapes plot None = []
offending_shapes plot (Some offence) = offence_shapes plot offence
