-- What is drawn of a step: its bar, and its title with the numbers of its order.
use Rattle.std.specs.Prelude.{ℕ, Bool, true, false, nat_lt, List, [], ◌∷◌, ◌++◌, codes, decimal, length, slice_get, if◌then◌else◌}
use Rattle.std.specs.List.{flat_map, join_with_byte}
use Rattle.audit_base.specs.declared.orders.Order.{Order}
use Rattle.audit_base.specs.declared.terms.Side.{Side}
use Rattle.audit_base.specs.declared.terms.Side.TheVariants.{Buy, Sell}
use Rattle.audit_base.specs.Numbers.{price_text}
use Rattle.audit_report.specs.Lines.{side_word}
use Rattle.call_picture.specs.declared.steps.SideStep.{SideStep}
use Rattle.call_drawing.specs.declared.bars.Bar.{Bar}
use Rattle.call_drawing.specs.declared.bars.PlacedSide.{PlacedSide}
use Rattle.call_drawing.specs.declared.bars.PlacedStep.{PlacedStep}
use Rattle.page_plots.specs.Orders.{order_title}
use Rattle.page_plots.specs.Shapes.{bar_shape, group, path, path_point}
use Rattle.page_plots.specs.Sides.{bar_class, filled_class}

-- the title of the orders of one limit: how many they are, SIDE,QUANTITY,LIMIT,TRADED, their
-- quantities and traded numbers added
abbrev pub limit_title : Side → SideStep → List ℕ
limit_title side step = join_with_byte 44
    (decimal step.orders ∷ side_word side ∷ decimal step.quantity ∷ price_text step.limit
    ∷ decimal step.traded ∷ [])

-- the title of a step
abbrev pub step_title : List Order → Side → Bool → SideStep → List ℕ
step_title orders side true step = limit_title side step
step_title orders side false step = order_title (slice_get orders step.best) step.traded

-- the class of the line that joins the bars of a side
abbrev pub line_class : Side → List ℕ
line_class Buy = codes "bidline"
line_class Sell = codes "askline"

-- the bar of a step in a class, from its left to here
abbrev pub step_bar : List ℕ → Bar → ℕ → List ℕ
step_bar class bar right = bar_shape class (record { x = bar.left; y = bar.top }) right

-- the traded part of a bar, where the step traded
abbrev pub traded_bar : Side → PlacedStep → List ℕ
traded_bar side placed =
    if nat_lt 0 placed.step.traded then step_bar (filled_class side) placed.bar placed.bar.filled
    else []

-- a step: its title, its bar, and its traded part
abbrev pub step_shapes : List Order → Side → Bool → PlacedStep → List ℕ
step_shapes orders side by_limit placed = group (step_title orders side by_limit placed.step)
    (step_bar (bar_class side) placed.bar placed.bar.right ++ traded_bar side placed)

-- the two ends of a bar, at its limit
abbrev pub ends_of_bar : PlacedStep → List ℕ
ends_of_bar placed = path_point (record { x = placed.bar.left; y = placed.bar.level })
    ++ path_point (record { x = placed.bar.right; y = placed.bar.level })

-- the line that joins the bars of a side, where there are some
abbrev pub side_line : Side → List PlacedStep → List ℕ
side_line side steps = if nat_lt 0 (length steps)
    then path (line_class side) (codes "M" ++ flat_map ends_of_bar steps)
    else []

-- the steps of a side, best first, and the line that joins them
abbrev pub side_shapes : List Order → Side → PlacedSide → List ℕ
side_shapes orders side placed =
    flat_map (step_shapes orders side placed.by_limit) placed.steps.items
    ++ side_line side placed.steps.items
