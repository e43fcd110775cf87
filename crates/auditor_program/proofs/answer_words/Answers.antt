-- The words are those that the command line gave.
use Rattle.std.proofs.Common.{inr, map}
use Rattle.std.specs.String.{string_bytes}
use Rattle.auditor_program.proofs.answer_words.Goals as goal

pub returns-in-Ok : goal.returns-in-Ok
returns-in-Ok g c =
    inr (map string_bytes c.deref.result.now, rw c.deref.ensures.value c.in-Ok.ensures, c.run_words.ensures)
