-- The keeper that was opened has counted no fault, and of the opener nothing is known.
use Rattle.std.proofs.Common.{refl}
use Rattle.casebook_program.proofs.OpenerLemmas.{opens_untold}
use Rattle.casebook_program.proofs.file_opener.FileOpenerOpener.open_book.Goals as goal

pub returns-in-Ok-clause-opens : goal.returns-in-Ok-clause-opens
returns-in-Ok-clause-opens g c = opens_untold _ _ _ c.in-Ok.keeper c.in-Ok.ensures.fresh refl
