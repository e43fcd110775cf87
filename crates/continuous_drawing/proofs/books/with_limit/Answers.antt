use Rattle.std.proofs.Common.{◌≡◌, ◌++◌, ◌∙◌}
use Rattle.std.specs.Prelude.{codes}
use Rattle.std.proofs.lemmas.Result.{IfOk-weaker}
use Rattle.audit_base.specs.Numbers.{price_text}
use Rattle.page_plots.specs.declared.shapes.Anchor.TheVariants.{End}
use Rattle.page_plots.specs.Shapes.{label}
use Rattle.continuous_drawing.proofs.books.with_limit.Goals as goal

pub returns : goal.returns
returns c =
    let text : c.deref.result.now ≡ price_text c.args.placed.now.line.limit = c.deref.ensures.value ∙ c.in_ok-text.ensures in
    IfOk-weaker c.with_label.result _ _ (λ more e. e ∙ (λ i. c.args.made ++ label (codes "tick") (c.beside-at.ensures.same i) End (text i))) c.with_label.ensures
