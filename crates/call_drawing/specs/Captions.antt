-- What stands below the picture of a call: what its colours and marks are, and what is not drawn.
use Rattle.std.specs.Prelude.{ℕ, Bool, true, false, not, ◌||◌, ◌&&◌, nat_lt, List, [], ◌++◌, codes, decimal, if◌then◌else◌}
use Rattle.call_picture.specs.declared.pictures.CallPicture.{CallPicture}
use Rattle.call_picture.specs.declared.pictures.SidePicture.{SidePicture}
use Rattle.call_picture.specs.declared.windows.DrawnSteps.{DrawnSteps}
use Rattle.page_markup.specs.declared.words.Tag.TheVariants as tag
use Rattle.page_parts.specs.Elements.{text_element}
use Rattle.page_plots.specs.Sides.{sides_legend}

-- where the colour of asks begins in the legend, behind the words of bids
abbrev pub asks_legend : ℕ
asks_legend = 124

-- what the two colours are
abbrev pub call_legend : List ℕ
call_legend = sides_legend (codes "bids") asks_legend (codes "asks")

-- what a bar of a side is
unfoldable pub bar_words : Bool → List ℕ
bar_words false = codes " Each bar is an order."
bar_words true = codes " Each bar is all orders of one limit."

-- steps of a side are left out
abbrev pub leaves_out : DrawnSteps → Bool
leaves_out drawn = nat_lt 0 drawn.better || nat_lt 0 drawn.worse

-- how many limits of a side are not drawn, where some are not
abbrev pub left_out_words : DrawnSteps → List ℕ
left_out_words drawn = if leaves_out drawn
    then codes " Not drawn: " ++ decimal drawn.better ++ codes " better limits, "
    ++ decimal drawn.worse ++ codes " worse limits."
    else []

-- what is said of a side
abbrev pub side_words : List ℕ → SidePicture → List ℕ
side_words name picture =
    name ++ bar_words picture.by_limit ++ left_out_words picture.drawn

-- what every picture of a call shows
unfoldable pub call_words : List ℕ
call_words = codes "A bar is as wide as its quantity, and filled as far as it traded. Bids lie above their limit, asks below, the best ones at the left."

-- what the marks are, where one is drawn
unfoldable pub marks_words : Bool → List ℕ
marks_words false = []
marks_words true = codes " The marks are those of the table."

-- what the picture shows, and what its marks are, where one is drawn
abbrev pub whole_words : Bool → List ℕ
whole_words has_marks = call_words ++ marks_words has_marks

-- each step of the side is an order's, and none is left out
abbrev pub is_plain : SidePicture → Bool
is_plain picture = not (picture.by_limit || leaves_out picture.drawn)

-- the same, in a paragraph
abbrev pub side_part : List ℕ → SidePicture → List ℕ
side_part name picture = text_element tag.Paragraph (side_words name picture)

-- what the bars of each side are, in a paragraph for each
abbrev pub each_side : CallPicture → List ℕ
each_side picture = side_part (codes "Bids:") picture.bids ++ side_part (codes "Asks:") picture.asks

-- what the bars are: said once, where each is an order of either side
abbrev pub bars : CallPicture → List ℕ
bars picture = if is_plain picture.bids && is_plain picture.asks
    then text_element tag.Paragraph (codes "Each bar is an order.") else each_side picture

-- the caption, by whether a mark is drawn
abbrev pub caption : CallPicture → Bool → List ℕ
caption picture has_marks = text_element tag.Paragraph (whole_words has_marks) ++ bars picture
