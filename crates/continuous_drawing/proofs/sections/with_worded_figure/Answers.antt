use Rattle.std.proofs.Common.{◌≡◌, ◌++◌, ◌∙◌, ap, ℕ, List}
use Rattle.std.proofs.lemmas.Result.{IfOk-weaker}
use Rattle.page_markup.specs.declared.words.Tag.TheVariants as tag
use Rattle.page_parts.specs.Elements.{text_element}
use Rattle.page_plots.specs.Figures.{figure_section}
use Rattle.continuous_drawing.proofs.sections.with_worded_figure.Goals as goal

pub returns : goal.returns
returns c =
    let words = text_element tag.Paragraph c.args.words.now in
    let below : c.in_ok-caption.caption ≡ words = c.in_ok-caption.ensures ∙ ap (λ (made : List ℕ). made ++ words) c.new.ensures in
    IfOk-weaker c.with_figure.result _ _ (λ more e. e ∙ ap (λ (caption : List ℕ). c.args.made ++ figure_section c.args.heading.now c.args.heading.now c.args.paper.now c.args.shapes.now caption) below) c.with_figure.ensures
