use Rattle.std.proofs.Common.{◌∙◌, refl}
use Rattle.fix_messages.specs.BodyFields.{fields_of}
use Rattle.fix_messages.proofs.TagLemmas.{type-is}
use Rattle.log_contents.proofs.message_values.type_value.Goals as goal

pub returns : goal.returns
returns c = c.first_value.ensures ∙ type-is c.args.body.now c.args.notes.now (fields_of c.args.body.now) c.requires refl
