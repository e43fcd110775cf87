use Rattle.desk_page.proofs.running.run_request.Given as goal

-- the logs that the shelf has under all its names
abbrev pub ghosts-run_same : goal.ghosts-run_same
ghosts-run_same g a = record { tells = g.F.Shelf.tells a.shelf; log_of = g.F.Shelf.log_of a.shelf }
