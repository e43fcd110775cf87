use Rattle.std.proofs.Common.{refl, replicate}
use Rattle.fix_fields.proofs.NoteLemmas.{notes-none}
use Rattle.fix_fields.proofs.notes.TagNotes.new.Goals as goal

pub returns : goal.returns
returns c = notes-none (record { counts = replicate 65 0; starts = replicate 65 0; ends = replicate 65 0 }) refl
