use Rattle.symbol_offences.proofs.reading.read_symbol.Given as goal

-- the symbol that is asked about, and what is kept of it
abbrev pub ghosts-read_asked : goal.ghosts-read_asked
ghosts-read_asked g a = record { symbol = a.scope.now.symbol; keeping = a.keeping }
