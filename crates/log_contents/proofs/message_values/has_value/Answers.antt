use Rattle.std.proofs.Common.{◌∙◌, ap, refl}
use Rattle.fix_messages.specs.BodyFields.{fields_of}
use Rattle.fix_messages.specs.Rows.{values_of}
use Rattle.fix_messages.proofs.TagLemmas.{says-only}
use Rattle.log_contents.proofs.ValueLemmas.{any-only, is_there}
use Rattle.log_contents.proofs.message_values.has_value.Goals as goal

pub returns-in-Absent : goal.returns-in-Absent
returns-in-Absent c =
    ap is_there (says-only c.args.body.now c.args.notes.now c.requires.notes c.args.tag _ (fields_of c.args.body.now) c.in-Absent.ensures refl)
    ∙ any-only c.args.tag (values_of c.args.tag (fields_of c.args.body.now))

pub returns-in-One : goal.returns-in-One
returns-in-One c =
    ap is_there (says-only c.args.body.now c.args.notes.now c.requires.notes c.args.tag _ (fields_of c.args.body.now) c.in-One.ensures refl)
    ∙ any-only c.args.tag (values_of c.args.tag (fields_of c.args.body.now))

pub returns-in-Many : goal.returns-in-Many
returns-in-Many c =
    ap is_there (says-only c.args.body.now c.args.notes.now c.requires.notes c.args.tag _ (fields_of c.args.body.now) c.in-Many.ensures refl)
    ∙ any-only c.args.tag (values_of c.args.tag (fields_of c.args.body.now))
