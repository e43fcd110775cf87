use Rattle.std.proofs.Common.{take}
use Rattle.fix_fields.specs.TagNotes.{AreNotesOf}
use Rattle.fix_fields.proofs.notes.TagNotes.note.Given as goal

abbrev pub invariant-loop-field : goal.invariant-loop-field
invariant-loop-field l = AreNotesOf l.self (take l.field-index l.fields)
