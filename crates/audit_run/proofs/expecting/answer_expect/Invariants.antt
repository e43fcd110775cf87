use Rattle.audit_run.proofs.expecting.answer_expect.Given as goal

abbrev pub ghosts-answer_about : goal.ghosts-answer_about
ghosts-answer_about g a = record { symbol = a.symbol.now }
