use Rattle.desk_filing.proofs.days.judged_logs.Goals as goal

pub returns-in-Read : goal.returns-in-Read
returns-in-Read c = rw c.in-Read.is c.judged_day.ensures
