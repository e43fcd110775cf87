use Rattle.log_verdict.proofs.both_logs.after_orders.Given as goal

abbrev pub ghosts-after_history : goal.ghosts-after_history
ghosts-after_history g a = record { symbol = a.scope.now.symbol; orders = a.history }
