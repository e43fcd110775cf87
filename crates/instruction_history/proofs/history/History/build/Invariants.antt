use Rattle.instruction_history.proofs.history.History.build.Given as goal

-- the draft is of the symbol that is asked for
abbrev pub ghosts-history_of : goal.ghosts-history_of
ghosts-history_of a = record { symbol = a.symbol.now }
