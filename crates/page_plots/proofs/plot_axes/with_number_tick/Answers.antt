use Rattle.std.proofs.Common.{◌≡◌, ◌++◌, ◌∙◌, ap, ℕ, List, decimal}
use Rattle.std.specs.Prelude.{codes}
use Rattle.std.proofs.lemmas.List.{append_assoc}
use Rattle.std.proofs.lemmas.Result.{IfOk-weaker}
use Rattle.page_plots.specs.declared.shapes.Anchor.TheVariants.{Middle}
use Rattle.page_plots.specs.Measures.{lower_end, marks_end, numbers_foot}
use Rattle.page_plots.specs.Shapes.{label, straight_line}
use Rattle.page_plots.proofs.plot_axes.with_number_tick.Goals as goal

pub returns : goal.returns
returns c =
    let x : c.from-x.result ≡ c.args.tick.now.x = c.from-x.ensures in
    let text : c.deref.result.now ≡ decimal c.args.tick.now.number = c.deref.ensures.value ∙ c.in_ok-text.ensures in
    let words : ℕ → List ℕ → List ℕ = λ at t. label (codes "tick") (record { x = at; y = numbers_foot }) Middle t in
    let line : ℕ → List ℕ = λ at. straight_line (codes "axis") (record { x = at; y = lower_end }) (record { x = at; y = marks_end }) in
    IfOk-weaker c.with_label.result _ _ (λ made e. e ∙ ap (λ (m : List ℕ). m ++ words c.from-x.result c.deref.result.now) c.in_ok-made.ensures
    ∙ append_assoc c.args.made (line c.from-x.result) (words c.from-x.result c.deref.result.now)
    ∙ (λ i. c.args.made ++ (line (x i) ++ words (x i) (text i)))) c.with_label.ensures
