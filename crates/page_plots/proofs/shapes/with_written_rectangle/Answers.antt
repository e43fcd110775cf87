use Rattle.std.proofs.Common.{◌++◌, ◌∙◌, ap, ℕ, List}
use Rattle.std.proofs.lemmas.Result.{IfOk-weaker}
use Rattle.page_markup.specs.declared.words.AttributeName.TheVariants as name
use Rattle.page_markup.specs.declared.words.Tag.TheVariants as tag
use Rattle.page_plots.proofs.ShapeLemmas.{five-said}
use Rattle.page_plots.proofs.shapes.with_written_rectangle.Goals as goal

pub returns : goal.returns
returns c = IfOk-weaker c.with_element-2.result _ _ (λ x e. e ∙ ap (λ (z : List ℕ). c.args.made ++ z) (five-said tag.Rectangle c.attribute.result c.attribute-2.result c.attribute-3.result c.attribute-4.result c.attribute-5.result name.Class name.X name.Y name.Width name.Height _ _ _ _ _
    (record { name = c.attribute.ensures.name; value = c.attribute.ensures.value }) (record { name = c.attribute-2.ensures.name; value = c.attribute-2.ensures.value }) (record { name = c.attribute-3.ensures.name; value = c.attribute-3.ensures.value }) (record { name = c.attribute-4.ensures.name; value = c.attribute-4.ensures.value }) (record { name = c.attribute-5.ensures.name; value = c.attribute-5.ensures.value }) _ _ c.new.ensures)) c.with_element-2.ensures
