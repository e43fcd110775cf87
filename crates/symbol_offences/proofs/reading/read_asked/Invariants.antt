use Rattle.symbol_offences.proofs.reading.read_asked.Given as goal

abbrev pub ghosts-read_keeping : goal.ghosts-read_keeping
ghosts-read_keeping g a = record { symbol = a.scope.now.symbol }
