use Rattle.std.proofs.Common.{◌≡◌, ◌++◌, ◌∙◌}
use Rattle.std.specs.Prelude.{codes}
use Rattle.std.proofs.lemmas.Result.{IfOk-weaker}
use Rattle.page_plots.specs.Papers.{plot_paper}
use Rattle.continuous_drawing.specs.Captions.{quotes_caption}
use Rattle.continuous_drawing.specs.Sections.{worded_figure}
use Rattle.continuous_drawing.proofs.sections.picture_section.Goals as goal

pub returns : goal.returns
returns c =
    let paper : c.deref.result.now ≡ plot_paper c.args.axes.now = c.deref.ensures.value ∙ c.in_ok-paper.ensures in
    let words : c.deref-2.result.now ≡ quotes_caption c.args.has_line = c.deref-2.ensures.value ∙ c.in_ok-words.ensures in
    IfOk-weaker c.with_worded_figure.result _ _ (λ more e. e ∙ (λ i. c.new-made.ensures i ++ worded_figure (codes "Best bid and best ask by record") (paper i) c.args.shapes.now (words i))) c.with_worded_figure.ensures
