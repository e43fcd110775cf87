use Rattle.std.proofs.Common.{◌≡◌, ◌++◌, ◌∙◌}
use Rattle.std.specs.Prelude.{codes}
use Rattle.std.proofs.lemmas.Result.{IfOk-weaker}
use Rattle.page_plots.specs.Figures.{figure_section}
use Rattle.page_plots.specs.Papers.{plot_paper}
use Rattle.call_drawing.proofs.sections.section_of.Goals as goal

pub returns : goal.returns
returns c =
    let paper : c.deref.result.now ≡ plot_paper c.args.layout.now.axes = c.deref.ensures.value ∙ c.in_ok-paper.ensures in
    IfOk-weaker c.with_figure.result _ _ (λ made e. e ∙ (λ i. c.new-made.ensures i ++ figure_section (codes "The orders of the call") (codes "Bids and asks by price and quantity") (paper i) (c.in_ok-shapes.ensures i) (c.in_ok-caption.ensures i))) c.with_figure.ensures
