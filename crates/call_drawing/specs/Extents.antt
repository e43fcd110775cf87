-- The plot of a call: from which quantity to which, and from which price.
use Rattle.std.specs.Prelude.{ℕ, max, min, List}
use Rattle.std.specs.List.{fold}
use Rattle.call_picture.specs.declared.pictures.CallPicture.{CallPicture}
use Rattle.call_picture.specs.declared.steps.SideStep.{SideStep}
use Rattle.page_plots.specs.declared.plots.Plot.{Plot}
use Rattle.page_plots.specs.Plots.{plot_between}
use Rattle.call_drawing.specs.Bars.{end_of_steps}

-- the greatest of a number and the limits of steps
abbrev pub greatest_limit : ℕ → List SideStep → ℕ
greatest_limit number steps = fold (λ most step. max most step.limit) number steps

-- the least of a number and the limits of steps
abbrev pub least_limit : ℕ → List SideStep → ℕ
least_limit number steps = fold (λ least step. min least step.limit) number steps

-- the greatest limit that is drawn; 0 where there is none
abbrev pub highest_limit : CallPicture → ℕ
highest_limit picture = greatest_limit (greatest_limit 0 picture.bids.drawn.steps.items)
    picture.asks.drawn.steps.items

-- the least limit that is drawn; 0 where there is none
abbrev pub lowest_limit : CallPicture → ℕ
lowest_limit picture =
    least_limit (least_limit (highest_limit picture) picture.bids.drawn.steps.items)
    picture.asks.drawn.steps.items

-- the plot of a call: from where the first step of either side begins to where the last one ends,
-- and to the volume and the greatest volume
abbrev pub plot_of_call : CallPicture → ℕ → Plot
plot_of_call picture greatest = plot_between
    (min picture.bids.drawn.before picture.asks.drawn.before)
    (max (max (end_of_steps picture.bids.drawn) (end_of_steps picture.asks.drawn))
    (max picture.volume greatest))
    (lowest_limit picture) (highest_limit picture)
