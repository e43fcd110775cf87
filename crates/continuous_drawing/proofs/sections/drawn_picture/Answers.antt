use Rattle.std.proofs.Common.{subst}
use Rattle.page_plots.specs.declared.plots.Plot.{Plot}
use Rattle.continuous_drawing.specs.Sections.{IsPlottedPicture}
use Rattle.continuous_drawing.proofs.sections.drawn_picture.Goals as goal

pub returns : goal.returns
returns c = subst (λ (plot : Plot). IsPlottedPicture plot c.args.orders.now c.args.deals.now c.args.columns.now c.args.offence c.in_ok-made.made) c.plot_of_trading-plot.ensures.same c.in_ok-made.ensures
