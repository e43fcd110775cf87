-- Where the parts of every picture lie on its paper, and how large they are, in units of the paper's
-- coordinates: from its left, from its top, and a digit is some 7 units wide.
use Rattle.std.specs.Prelude.{ℕ}

-- the left end of a plot, where also the bars of a book begin
abbrev pub left_end : ℕ
left_end = 68

-- the right end of a plot
abbrev pub right_end : ℕ
right_end = 468

-- the upper end of a plot
abbrev pub upper_end : ℕ
upper_end = 44

-- the lower end of a plot
abbrev pub lower_end : ℕ
lower_end = 304

-- how wide a plot is: from its left end to its right one
abbrev pub plot_width : ℕ
plot_width = 400

-- how high a plot is: from its upper end to its lower one
abbrev pub plot_height : ℕ
plot_height = 260

-- how high the paper of a plot is
abbrev pub paper_height : ℕ
paper_height = 346

-- where prices end that are written at the left of a plot or of a bar
abbrev pub prices_end : ℕ
prices_end = 60

-- the foot of the word over these prices
abbrev pub price_word_foot : ℕ
price_word_foot = 32

-- how far words have their foot below the middle of what they stand at
abbrev pub to_foot : ℕ
to_foot = 4

-- the lower end of a mark on the axis from the left
abbrev pub marks_end : ℕ
marks_end = 308

-- the foot of the number below such a mark
abbrev pub numbers_foot : ℕ
numbers_foot = 320

-- the foot of the words in the last row of the paper: the legend, and what the axis shows
abbrev pub legend_foot : ℕ
legend_foot = 340

-- the upper end of a colour in the legend
abbrev pub legend_top : ℕ
legend_top = 332

-- how wide a colour in the legend is
abbrev pub legend_width : ℕ
legend_width = 16

-- how far from the left end of a colour in the legend its words begin
abbrev pub to_legend_words : ℕ
to_legend_words = 21

-- how high a bar is
abbrev pub bar_height : ℕ
bar_height = 9

-- the radius of the badge of an order
abbrev pub badge_radius : ℕ
badge_radius = 7
