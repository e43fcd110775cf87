use Rattle.matching_core.proofs.resolving.resolve.Given as goal

-- the deals are those of the symbol and the history that are asked for
abbrev pub ghosts-resolve_all : goal.ghosts-resolve_all
ghosts-resolve_all a = record { symbol = a.symbol.now; orders = a.history.now }
