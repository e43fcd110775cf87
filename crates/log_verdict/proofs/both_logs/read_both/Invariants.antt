use Rattle.log_verdict.proofs.both_logs.read_both.Given as goal

abbrev pub ghosts-read_keeping : goal.ghosts-read_keeping
ghosts-read_keeping g a = record { symbol = a.scope.now.symbol }
