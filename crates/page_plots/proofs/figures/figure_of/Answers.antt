use Rattle.std.proofs.Common.{[], ◌++◌, ◌∙◌}
use Rattle.std.proofs.lemmas.Result.{IfOk-weaker}
use Rattle.page_markup.specs.declared.words.Tag.TheVariants as tag
use Rattle.page_parts.specs.Elements.{element}
use Rattle.page_plots.proofs.figures.figure_of.Goals as goal

pub returns : goal.returns
returns c = IfOk-weaker c.with_element-2.result _ _ (λ made e. e ∙ (λ i. c.new.ensures i ++ element tag.Figure [] (c.in_ok-inner.ensures i))) c.with_element-2.ensures
