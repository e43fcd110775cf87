-- The bars of the steps of a side: where they lie in the plot of their quantities and limits.
use Rattle.std.specs.Prelude.{◌≡◌, ◌+◌, ◌-◌, ◌/◌, ℕ, min, List, map, take}
use Rattle.std.specs.List.{enumerate_from}
use Rattle.audit_base.specs.declared.terms.Side.{Side}
use Rattle.audit_base.specs.declared.terms.Side.TheVariants.{Buy, Sell}
use Rattle.call_picture.specs.declared.pictures.SidePicture.{SidePicture}
use Rattle.call_picture.specs.declared.steps.SideStep.{SideStep}
use Rattle.call_picture.specs.declared.windows.DrawnSteps.{DrawnSteps}
use Rattle.call_picture.specs.Windows.{quantity_of_steps}
use Rattle.call_drawing.specs.declared.bars.Bar.{Bar}
use Rattle.call_drawing.specs.declared.bars.PlacedSide.{PlacedSide}
use Rattle.call_drawing.specs.declared.bars.PlacedStep.{PlacedStep}
use Rattle.page_plots.specs.declared.plots.Plot.{Plot}
use Rattle.page_plots.specs.Measures.{bar_height}
use Rattle.page_plots.specs.Plots.{x_of, y_of}

-- the quantity at which the step of a side at a place begins: what the better ones ask for or offer
-- together, drawn or not
abbrev pub start_of : DrawnSteps → ℕ → ℕ
start_of drawn place = drawn.before + quantity_of_steps (take place drawn.steps.items)

-- the quantity at which the last step ends
abbrev pub end_of_steps : DrawnSteps → ℕ
end_of_steps drawn = drawn.before + quantity_of_steps drawn.steps.items

-- the top of a bar: bids lie above their limit, asks below
abbrev pub bar_top : Side → ℕ → ℕ
bar_top Buy level = level - bar_height
bar_top Sell level = level

-- how far the centre of a mark lies from the limit of its bar
abbrev pub to_mark : ℕ
to_mark = 20

-- the centre of a mark: on the other side of the limit than the bars of the other side
abbrev pub mark_centre : Side → ℕ → ℕ
mark_centre Buy level = level - to_mark
mark_centre Sell level = level + to_mark

-- the bar of a step that begins at a quantity: it reaches as far as the quantity of the step, and is
-- filled as far as what it traded, at most whole
abbrev pub bar_of : Plot → Side → ℕ → SideStep → Bar
bar_of plot side start step = record {
  left = x_of plot start;
  right = x_of plot (start + step.quantity);
  filled = x_of plot (start + min step.traded step.quantity);
  top = bar_top side (y_of plot step.limit);
  level = y_of plot step.limit;
  mark_x = x_of plot start / 2 + x_of plot (start + step.quantity) / 2;
  mark_y = mark_centre side (y_of plot step.limit);
}

-- the step at a place of a side, with its bar
abbrev pub step_at_place : Plot → Side → DrawnSteps → ℕ × SideStep → PlacedStep
step_at_place plot side drawn at =
    record { step = at.1; bar = bar_of plot side (start_of drawn at.0) at.1 }

-- the steps of a side that are drawn, in order, each with its bar
abbrev pub placed_steps : Plot → Side → DrawnSteps → List PlacedStep
placed_steps plot side drawn =
    map (step_at_place plot side drawn) (enumerate_from 0 drawn.steps.items)

-- the steps of a side with their bars
pub record IsPlacedSide (plot : Plot) (side : Side) (picture : SidePicture)
    (placed : PlacedSide) : Type 0 where
  pub by_limit : placed.by_limit ≡ picture.by_limit
  pub each : placed.steps.items ≡ placed_steps plot side picture.drawn
