use Rattle.desk_run.proofs.running.run_request.Goals as goal

pub returns-in-Whole-clause-answers : goal.returns-in-Whole-clause-answers
returns-in-Whole-clause-answers g c = rw c.in-Whole.is c.run_whole.ensures.answers
