use Rattle.record_verdict.proofs.judging.given_after_history.Given as goal

-- the deals are those of the symbol and the history
abbrev pub ghosts-given_by_trades : goal.ghosts-given_by_trades
ghosts-given_by_trades a = record { symbol = a.scope.now.symbol; orders = a.history }
