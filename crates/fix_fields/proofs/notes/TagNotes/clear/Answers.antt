use Rattle.std.proofs.Common.{refl}
use Rattle.fix_fields.proofs.NoteLemmas.{notes-none}
use Rattle.fix_fields.proofs.notes.TagNotes.clear.Goals as goal

pub returns : goal.returns
returns c = notes-none _ refl
