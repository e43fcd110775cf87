use Rattle.std.proofs.Common.{take, sym, subst, arith}
use Rattle.std.proofs.lemmas.List.{take_all, take_more}
use Rattle.fix_fields.specs.declared.field.Field.{Field}
use Rattle.fix_fields.specs.TagNotes.{AreNotesOf}
use Rattle.fix_fields.proofs.notes.TagNotes.note.Goals as goal

abbrev any_field : Field
any_field = record { tag = 0; from = 0; to = 0 }

pub loop-field-preserved : goal.loop-field-preserved
loop-field-preserved c =
    let fields = c.args.fields.now in
    let i = c.loop-field.field-index in
    subst (AreNotesOf c.add.new.self) (sym (take_more fields i any_field (omega arith))) (c.add.ensures (take i fields) c.loop-field.invariant)

pub returns : goal.returns
returns c =
    let fields = c.args.fields.now in
    subst (AreNotesOf c.loop-field.self) (take_all c.loop-field.field-index fields (omega arith)) c.loop-field.invariant
