-- The paper of a picture: how far its coordinates reach.
use Rattle.std.specs.Prelude.{ℕ, Bool, true, false, nat_lt, nat_le, ◌^◌, List, ◌++◌, codes, decimal, length}
use Rattle.std.specs.List.{list_any}
use Rattle.audit_base.specs.Numbers.{price_text}
use Rattle.page_plots.specs.declared.plot_axes.Axes.{Axes}
use Rattle.page_plots.specs.declared.plot_axes.NumberTick.{NumberTick}
use Rattle.page_plots.specs.declared.plot_axes.PriceTick.{PriceTick}
use Rattle.page_plots.specs.Measures.{paper_height}

-- the text of a price has more than eight characters
abbrev pub is_long : ℕ → Bool
is_long price = nat_lt 8 (length (price_text price))

-- a marked price is long
abbrev pub is_long_tick : PriceTick → Bool
is_long_tick tick = is_long tick.price

-- a marked number has ten digits or more
abbrev pub is_long_number : NumberTick → Bool
is_long_number tick = nat_le (10 ^ 9) tick.number

-- the first coordinates of a paper, which are its left end, its upper end and its width: they give
-- it more room at its left, at its right or at both
abbrev pub paper_front : Bool → Bool → List ℕ
paper_front false false = codes "0 0 500 "
paper_front true false = codes "-76 0 576 "
paper_front false true = codes "0 0 560 "
paper_front true true = codes "-76 0 636 "

-- the coordinates of a paper of this height, with such room
abbrev pub paper_of : Bool → Bool → ℕ → List ℕ
paper_of left right height = paper_front left right ++ decimal height

-- the paper of a plot has more room at its left where a marked price is long, and at its right
-- where a marked number is long
abbrev pub plot_paper : Axes → List ℕ
plot_paper axes = paper_of (list_any is_long_tick axes.prices.items)
    (list_any is_long_number axes.numbers.items) paper_height
