use Rattle.std.proofs.Common.{sym}
use Rattle.fix_fields.proofs.NoteLemmas.{notes-more, notes-past}
use Rattle.fix_fields.proofs.notes.TagNotes.add.Goals as goal

pub returns-in_default : goal.returns-in_default
returns-in_default c = λ fields are. notes-past c.args.self.now fields c.args.field (sym c.in_default.ensures.value) are

pub returns : goal.returns
returns c = λ fields are.
    notes-more c.args.self.now c.put.new.self fields c.args.field c.in-Some.place (sym c.in-Some.ensures.value) c.put.ensures.here c.put.ensures.others are
