use Rattle.std.proofs.Common.{◌≡◌, ◌+◌, ◌++◌, ◌∙◌, ap, ℕ, List}
use Rattle.std.specs.Prelude.{codes}
use Rattle.std.proofs.lemmas.List.{append_assoc}
use Rattle.std.proofs.lemmas.Result.{IfOk-weaker}
use Rattle.audit_base.specs.Numbers.{price_text}
use Rattle.page_plots.specs.declared.shapes.Anchor.TheVariants.{End}
use Rattle.page_plots.specs.Measures.{prices_end, to_foot}
use Rattle.page_plots.specs.PlotLines.{line_across}
use Rattle.page_plots.specs.Shapes.{label}
use Rattle.page_plots.proofs.plot_axes.with_price_tick.Goals as goal

pub returns : goal.returns
returns c =
    let y : c.from-y.result ≡ c.args.tick.now.y = c.from-y.ensures in
    let text : c.deref.result.now ≡ price_text c.args.tick.now.price = c.deref.ensures.value ∙ c.in_ok-text.ensures in
    let words : ℕ → List ℕ → List ℕ = λ at t. label (codes "tick") (record { x = prices_end; y = at + to_foot }) End t in
    let line : ℕ → List ℕ = line_across (codes "grid") in
    IfOk-weaker c.with_label.result _ _ (λ x e. e ∙ ap (λ (m : List ℕ). m ++ words c.from-y.result c.deref.result.now) c.in_ok-made.ensures
    ∙ append_assoc c.args.made (line c.from-y.result) (words c.from-y.result c.deref.result.now)
    ∙ (λ i. c.args.made ++ (line (y i) ++ words (y i) (text i)))) c.with_label.ensures
