use Rattle.fix_fields.specs.Ranges.{tag_values_of}
use Rattle.fix_messages.proofs.BodyLemmas.{fields-are}
use Rattle.fix_messages.proofs.message.Message.with_fields.Goals as goal

pub invariant_of-result : goal.invariant_of-result
invariant_of-result c = record { fields = c.args.fields.now; are = c.requires; taken = c.note.ensures }

pub returns : goal.returns
returns c = fields-are c.args.body.now (tag_values_of c.args.body.now c.args.fields.now) c.requires.read
