-- The files were opened, and then it went on to connect.
use Rattle.casebook_program.proofs.DatabaseLemmas.{asked_then_connected}
use Rattle.casebook_program.proofs.databases.open_database.Goals as goal

pub returns-clause-asked : goal.returns-clause-asked
returns-clause-asked g c = asked_then_connected _ _ _ _ _ c.in_ok-files.ensures.asked c.connect.ensures
