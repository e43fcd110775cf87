-- The marks of the orders of the evidence, with the numbers of their rows in the table.
use Rattle.std.specs.Prelude.{ℕ, Bool, true, false, ◌==◌, List, [], ◌++◌, codes, slice_get, if◌then◌else◌}
use Rattle.std.specs.List.{flat_map, list_any}
use Rattle.audit_base.specs.declared.findings.OrderLine.{OrderLine}
use Rattle.audit_base.specs.declared.orders.Order.{Order}
use Rattle.audit_base.specs.declared.terms.Side.{Side}
use Rattle.audit_base.specs.declared.terms.Side.TheVariants.{Buy, Sell}
use Rattle.call_picture.specs.declared.steps.SideStep.{SideStep}
use Rattle.call_drawing.specs.declared.bars.Bar.{Bar}
use Rattle.call_drawing.specs.declared.layouts.CallLayout.{CallLayout}
use Rattle.call_drawing.specs.declared.bars.PlacedSide.{PlacedSide}
use Rattle.call_drawing.specs.declared.bars.PlacedStep.{PlacedStep}
use Rattle.page_plots.specs.declared.shapes.Point.{Point}
use Rattle.page_plots.specs.Orders.{badge, has_place}
use Rattle.call_drawing.specs.Steps.{step_bar}

-- the step is that of an order, or of its limit
abbrev pub is_step_of : List Order → Bool → SideStep → OrderLine → Bool
is_step_of orders true step line = step.limit == line.limit
is_step_of orders false step line = has_place (slice_get orders step.best) line.place

-- the centre of the mark that a bar may have
abbrev pub mark_of : Bar → Point
mark_of bar = record { x = bar.mark_x; y = bar.mark_y }

-- a mark round a bar, with this number
abbrev pub bar_mark : List ℕ → Bar → List ℕ
bar_mark number bar = step_bar (codes "mark") bar bar.right
    ++ badge number (mark_of bar)

-- the mark of an order at a step, where it is that of the order
abbrev pub mark_at_step : List Order → Bool → List ℕ → OrderLine → PlacedStep → List ℕ
mark_at_step orders by_limit number line placed =
    if is_step_of orders by_limit placed.step line then bar_mark number placed.bar else []

-- the mark of an order of a side, where its step is drawn
abbrev pub mark_on_side : List Order → List ℕ → OrderLine → PlacedSide → List ℕ
mark_on_side orders number line placed =
    flat_map (mark_at_step orders placed.by_limit number line) placed.steps.items

-- the steps of a side
abbrev pub steps_of_side : CallLayout → Side → PlacedSide
steps_of_side layout Buy = layout.bids
steps_of_side layout Sell = layout.asks

-- the mark of an order
abbrev pub step_mark : CallLayout → List Order → List ℕ → OrderLine → List ℕ
step_mark layout orders number line =
    mark_on_side orders number line (steps_of_side layout line.side)

-- a step that is drawn is that of an order
abbrev pub has_step_of : List Order → OrderLine → PlacedSide → Bool
has_step_of orders line placed =
    list_any (λ p. is_step_of orders placed.by_limit p.step line) placed.steps.items

-- the mark of an order is drawn: a step of its side is that of the order
abbrev pub has_step_mark : CallLayout → List Order → OrderLine → Bool
has_step_mark layout orders line = has_step_of orders line (steps_of_side layout line.side)
