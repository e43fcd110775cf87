use Rattle.std.proofs.Common.{◌≡◌, ◌++◌, ◌∙◌, ap, ℕ, List}
use Rattle.std.proofs.lemmas.Result.{IfOk-weaker}
use Rattle.page_parts.specs.Elements.{section}
use Rattle.page_plots.specs.Figures.{figure}
use Rattle.page_plots.specs.Shapes.{svg}
use Rattle.page_plots.proofs.figures.with_figure.Goals as goal

pub returns : goal.returns
returns c =
    let drawn = svg c.args.picture.now.paper.now c.args.picture.now.title.now c.args.picture.now.shapes.now in
    let picture : c.in_ok-picture.picture ≡ drawn = c.in_ok-picture.ensures ∙ ap (λ (made : List ℕ). made ++ drawn) c.new.ensures in
    let whole : c.in_ok-figure.figure ≡ figure drawn c.args.caption.now = c.in_ok-figure.ensures ∙ ap (λ (made : List ℕ). figure made c.args.caption.now) picture in
    IfOk-weaker c.with_section.result _ _ (λ more e. e ∙ ap (λ (made : List ℕ). c.args.made ++ section c.args.heading.now made) whole) c.with_section.ensures
