-- The keeper that was opened has counted no fault, and of the opener nothing is known. Where none was
-- opened, only the count of faults is another.
use Rattle.std.proofs.Common.{refl}
use Rattle.digest_database_files.proofs.OpenerLemmas.{asks_unopened, opens_untold}
use Rattle.digest_database_files.proofs.file_opener.FileDigestOpenerDigestOpener.open.Goals as goal
use Rattle.digest_database_files.proofs.file_opener.FileDigestOpenerDigestOpener.open.Goals.{in-Failed, in_default}

pub returns-in-Ok-clause-opens : goal.returns-in-Ok-clause-opens
returns-in-Ok-clause-opens g c = opens_untold _ _ _ _ c.in-Ok.keeper c.in-Ok.ensures.fresh refl

pub returns-after-fault-clause-asked : goal.returns-after-fault-clause-asked
returns-after-fault-clause-asked g c = elim c.match-fault.branch [
  | in-Failed w ↦ rw (w.self-is) (asks_unopened _ _ _ _ _ c.in-Err.ensures.asked)
  | in_default w ↦ rw (w.self-is) (asks_unopened _ _ _ _ _ c.in-Err.ensures.asked)
]
