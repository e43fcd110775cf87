use Rattle.desk_page.specs.PageAnswers.{logs_in}
use Rattle.desk_page.specs.TopCall.{page_reading}
use Rattle.desk_page.proofs.running.run_named.Given as goal

-- the logs that the shelf has
abbrev pub ghosts-run_known : goal.ghosts-run_known
ghosts-run_known g a = record { shelf = logs_in (page_reading g.F.Shelf a.request.now.logs a.shelf a.shelf) }
