-- The two sides of a picture: their classes, by which they have their colours, and a legend of
-- these.
use Rattle.std.specs.Prelude.{ℕ, ◌+◌, List, ◌++◌, codes}
use Rattle.audit_base.specs.declared.terms.Side.{Side}
use Rattle.audit_base.specs.declared.terms.Side.TheVariants.{Buy, Sell}
use Rattle.page_plots.specs.declared.shapes.Anchor.TheVariants.{Start}
use Rattle.page_plots.specs.Measures.{bar_height, left_end, legend_foot, legend_top, legend_width, to_legend_words}
use Rattle.page_plots.specs.Shapes.{label, rectangle}

-- the class of a bar of a side
abbrev pub bar_class : Side → List ℕ
bar_class Buy = codes "bid"
bar_class Sell = codes "ask"

-- the class of the filled part of one
abbrev pub filled_class : Side → List ℕ
filled_class Buy = codes "bidtraded"
filled_class Sell = codes "asktraded"

-- the class of words in the colour of a side
abbrev pub words_class : Side → List ℕ
words_class Buy = codes "bids"
words_class Sell = codes "asks"

-- what the colour of a side is: the colour, and words beside it
abbrev pub legend_entry : Side → ℕ → List ℕ → List ℕ
legend_entry side x words =
    rectangle (filled_class side) (record { x = x; y = legend_top }) legend_width bar_height
    ++ label (words_class side) (record { x = x + to_legend_words; y = legend_foot }) Start words

-- what both colours are: these words of bids at the left end of the plot, and of asks at another
-- place
abbrev pub sides_legend : List ℕ → ℕ → List ℕ → List ℕ
sides_legend bids asks_x asks = legend_entry Buy left_end bids ++ legend_entry Sell asks_x asks
