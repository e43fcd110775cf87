use Rattle.std.proofs.Common.{◌++◌, ◌+◌, ◌∙◌, ap, ℕ, List}
use Rattle.std.proofs.lemmas.List.{append_assoc}
use Rattle.std.proofs.lemmas.Result.{IfOk-weaker}
use Rattle.page_plots.specs.declared.shapes.Anchor.TheVariants.{Start}
use Rattle.page_plots.specs.Measures.{bar_height, legend_foot, legend_top, legend_width, to_legend_words}
use Rattle.page_plots.specs.Shapes.{label, rectangle}
use Rattle.page_plots.proofs.sides.with_legend_entry.Goals as goal

pub returns : goal.returns
returns c =
    let bar : List ℕ → List ℕ = λ class. rectangle class (record { x = c.args.x; y = legend_top }) legend_width bar_height in
    let words : List ℕ → List ℕ = λ class. label class (record { x = c.args.x + to_legend_words; y = legend_foot }) Start c.args.words.now in
    IfOk-weaker c.with_label.result _ _ (λ more e. e ∙ ap (λ (m : List ℕ). m ++ words c.words_class.result.now) c.in_ok-made.ensures
    ∙ append_assoc c.args.made (bar c.filled_class-class.result.now) (words c.words_class.result.now)
    ∙ (λ i. c.args.made ++ (bar (c.filled_class-class.ensures i) ++ words (c.words_class.ensures i)))) c.with_label.ensures
