-- What stands below the pictures, and the legend of the plot.
use Rattle.std.specs.Prelude.{ℕ, Bool, true, false, List, [], ◌++◌, codes}
use Rattle.page_plots.specs.declared.shapes.Anchor.TheVariants.{Start}
use Rattle.page_plots.specs.declared.shapes.Point.{Point}
use Rattle.page_plots.specs.Measures.{legend_foot}
use Rattle.page_plots.specs.Shapes.{circle, label}
use Rattle.page_plots.specs.Sides.{sides_legend}
use Rattle.continuous_drawing.specs.Trades.{dot_radius}

-- where the colour of asks begins in the legend, behind the words of bids
abbrev pub best_asks_legend : ℕ
best_asks_legend = 154

-- the centre of the dot of trades in the legend, behind the words of asks
abbrev pub dot_legend : Point
dot_legend = record { x = 247; y = 336 }

-- where the word of that dot begins
abbrev pub trade_word : ℕ
trade_word = 256

-- what a dot is
abbrev pub trade_entry : List ℕ
trade_entry = circle (codes "trade") dot_legend dot_radius
    ++ label (codes "tick") (record { x = trade_word; y = legend_foot }) Start (codes "trade")

-- what the two colours and the dots are
abbrev pub trading_legend : List ℕ
trading_legend =
    sides_legend (codes "best bid") best_asks_legend (codes "best ask") ++ trade_entry

-- what the picture of the best limits shows
unfoldable pub quotes_words : List ℕ
quotes_words = codes "The best bid and, above it, the best ask after each record; of many records together the least and the greatest. A dot is a trade, at the record that caused it; of more than 1,000 trades there is a bar from the least to the greatest price."

-- what the upright line is, where there is one
unfoldable pub line_words : Bool → List ℕ
line_words false = []
line_words true = codes " The upright line is the offending record."

-- the words below the picture of the best limits, by whether there is such a line
abbrev pub quotes_caption : Bool → List ℕ
quotes_caption has_line = quotes_words ++ line_words has_line

-- what the picture of the book shows
unfoldable pub book_words : List ℕ
book_words = codes "At most ten orders of each side, best first: the bids, and below them the asks. A bar is as long as the quantity of its order, and filled as far as is left of it; its limit is at the left, what is left at the right."

-- what the marks are, where one is drawn
unfoldable pub book_marks_words : Bool → List ℕ
book_marks_words false = []
book_marks_words true = codes " The marks 1 and 2 are those of the table."

-- the words below the picture of the book, by whether a mark is drawn
abbrev pub book_caption : Bool → List ℕ
book_caption has_marks = book_words ++ book_marks_words has_marks
