use Rattle.audit_run.proofs.SessionAnswerLemmas.{session_answers}
use Rattle.audit_run.proofs.sessions.session_answer.Goals as goal

pub returns : goal.returns
returns c =
    session_answers c.args.question.now c.answer_of_session.result c.args.given.now c.in_ok-session.session
    c.in_ok-session.ensures c.answer_of_session.ensures.status c.answer_of_session.ensures.text
