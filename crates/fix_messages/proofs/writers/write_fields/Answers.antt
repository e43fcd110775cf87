use Rattle.fix_messages.proofs.WrittenLemmas.{short-parts}
use Rattle.fix_messages.proofs.writers.write_fields.Goals as goal

pub write_field-requires-clause-tag : goal.write_field-requires-clause-tag
write_field-requires-clause-tag c = (short-parts c.args.fields.now c.loop-tag.tag-index _ c.requires c.loop-tag-test.true).0

pub write_field-requires-clause-value : goal.write_field-requires-clause-value
write_field-requires-clause-value c = (short-parts c.args.fields.now c.loop-tag.tag-index _ c.requires c.loop-tag-test.true).1
