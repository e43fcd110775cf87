use Rattle.std.proofs.Common.{refl}
use Rattle.desk_filing.proofs.KeeperLemmas.{files_known}
use Rattle.desk_filing.proofs.filing.file_in.Goals as goal

pub returns-in_ok-known_text-in-Some-clause-files : goal.returns-in_ok-known_text-in-Some-clause-files
returns-in_ok-known_text-in-Some-clause-files g c = files_known _ _ c.args.cases.now c.in-Some.known _ (rw c.in-Some.is at c.in_ok-known.ensures) refl c.in_ok-known_text-in-Some.ensures
