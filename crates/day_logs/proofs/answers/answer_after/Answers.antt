use Rattle.day_logs.proofs.AnswerLemmas.{judged-up-to}
use Rattle.day_logs.proofs.answers.answer_after.Goals as goal

pub returns-in_ok-judged-in-Read : goal.returns-in_ok-judged-in-Read
returns-in_ok-judged-in-Read c =
    rw c.in-Read.is (judged-up-to c.args.question.now c.in-Read.ended c.in_ok-judged-in-Read.judged c.in_ok-judged-in-Read.ensures)
