use Rattle.day_sessions.proofs.SessionAnswerLemmas.{sessions-up-to}
use Rattle.day_sessions.proofs.answers.sessions_after.Goals as goal

pub returns-in_ok-judged-in-Read : goal.returns-in_ok-judged-in-Read
returns-in_ok-judged-in-Read c =
    rw c.in-Read.is (sessions-up-to c.args.question.now.phases.now c.args.question.now.table c.args.question.now.checks c.args.question.now.share c.in-Read.ended c.in_ok-judged-in-Read.judged c.in_ok-judged-in-Read.ensures)
