use Rattle.std.proofs.Common.{ap, ◌∙◌}
use Rattle.fix_fields.specs.Forms.{tag_form}
use Rattle.fix_fields.proofs.TagLemmas.{tag_form-some, tag_form-decimal}
use Rattle.fix_fields.proofs.laws.tags_are_decimal.Goals as goal

pub returns : goal.returns
returns c = λ text tag. (tag_form-some text tag, λ is. ap tag_form is.0 ∙ tag_form-decimal tag is.1)
