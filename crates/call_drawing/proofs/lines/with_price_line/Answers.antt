use Rattle.std.proofs.Common.{◌≡◌, ◌++◌, ◌∙◌, ap, ℕ, List}
use Rattle.std.specs.Prelude.{codes}
use Rattle.std.proofs.lemmas.List.{append_assoc}
use Rattle.std.proofs.lemmas.Result.{IfOk-weaker}
use Rattle.audit_base.specs.Numbers.{price_text}
use Rattle.page_plots.specs.declared.shapes.Anchor.TheVariants.{End}
use Rattle.page_plots.specs.PlotLines.{line_across}
use Rattle.page_plots.specs.Shapes.{label}
use Rattle.call_drawing.specs.Lines.{price_words_end}
use Rattle.call_drawing.proofs.lines.with_price_line.Goals as goal

pub returns : goal.returns
returns c =
    let y : c.from-y.result ≡ c.args.y = c.from-y.ensures in
    let text : c.deref.result.now ≡ price_text c.args.price = c.deref.ensures.value ∙ c.in_ok-text.ensures in
    let words : ℕ → List ℕ → List ℕ = λ at t. label (codes "label") (record { x = price_words_end; y = at }) End t in
    let line : ℕ → List ℕ = line_across (codes "price") in
    IfOk-weaker c.with_label.result _ _ (λ x e. e ∙ ap (λ (m : List ℕ). m ++ words c.from-y.result c.deref.result.now) c.in_ok-made.ensures
    ∙ append_assoc c.args.made (line c.from-y.result) (words c.from-y.result c.deref.result.now)
    ∙ (λ i. c.args.made ++ (line (y i) ++ words (y i) (text i)))) c.with_label.ensures
