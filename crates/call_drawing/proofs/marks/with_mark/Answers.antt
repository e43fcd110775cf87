use Rattle.std.proofs.Common.{◌++◌, ◌∙◌, ap, ℕ, List}
use Rattle.std.specs.Prelude.{codes}
use Rattle.std.proofs.lemmas.List.{append_assoc}
use Rattle.std.proofs.lemmas.Result.{IfOk-weaker}
use Rattle.page_plots.specs.declared.shapes.Point.{Point}
use Rattle.page_plots.specs.Orders.{badge}
use Rattle.call_drawing.specs.Steps.{step_bar}
use Rattle.call_drawing.proofs.marks.with_mark.Goals as goal

pub returns : goal.returns
returns c =
    let bar = step_bar (codes "mark") c.args.bar c.args.bar.right in
    let number : Point → List ℕ = λ centre. badge c.args.number.now centre in
    IfOk-weaker c.with_badge.result _ _ (λ more e. e ∙ ap (λ (m : List ℕ). m ++ number c.mark_of.result) c.in_ok-made.ensures
    ∙ append_assoc c.args.made bar (number c.mark_of.result)
    ∙ (λ i. c.args.made ++ (bar ++ number (c.mark_of.ensures i)))) c.with_badge.ensures
