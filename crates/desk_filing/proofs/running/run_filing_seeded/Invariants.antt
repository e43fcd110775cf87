-- The logs are those that the shelf has when it is handed over.
use Rattle.desk_filing.proofs.running.run_filing_seeded.Given as goal

abbrev pub ghosts-run_request : goal.ghosts-run_request
ghosts-run_request g a = record { tells = g.F.Shelf.tells a.shelf; log_of = g.F.Shelf.log_of a.shelf }
