use Rattle.std.proofs.Common.{refl}
use Rattle.log_verdict.specs.Steps.{reading_by}
use Rattle.record_verdict.specs.Scopes.{session_scope}
use Rattle.audit_run.specs.Deciding.{request_to_judge_session}
use Rattle.command_run.proofs.UnreadLemmas.{stays_unread}
use Rattle.audit_run.proofs.AnswerLemmas.{session-status}
use Rattle.audit_run.proofs.SessionAnswerLemmas.{bad_session}
use Rattle.audit_run.proofs.sessions.answer_session.Goals as goal

pub returns-in_ok-session_answer-in-Ok-clause-decides : goal.returns-in_ok-session_answer-in-Ok-clause-decides
returns-in_ok-session_answer-in-Ok-clause-decides g c =
    c.both_logs_decide.ensures.answers (request_to_judge_session c.args.question.now c.args.orders.now c.args.trades.now) (session_scope c.args.question.now.symbol, c.in-Ok.given)
    (reading_by c.args.orders.now g.F.Shelf c.args.shelf.now c.read_both.new.shelf) c.args.orders.now c.args.trades.now _ _ c.in-Ok.ensures.later
    (record {
      starts = record { first = refl; second = λ bytes. refl };
      answer = λ logs short come. c.in_ok-session_answer-in-Ok.ensures _ _ come;
      ends = λ first second entries e come. refl;
      status_of_logs = λ logs is. session-status _ _ _ _ _ _ _ is;
    }) c.in-Ok.ensures.decides

pub returns-in-Err-clause-decides : goal.returns-in-Err-clause-decides
returns-in-Err-clause-decides g c =
    c.both_logs_decide.ensures.unread (request_to_judge_session c.args.question.now c.args.orders.now c.args.trades.now) (reading_by c.args.orders.now g.F.Shelf c.args.shelf.now c.read_both.new.shelf) c.args.orders.now c.args.trades.now c.in-Err.why c.answer_without.result
    c.in-Err.ensures.later
    (record {
      starts = record { first = refl; second = λ bytes. refl };
      answer = λ log bad the_status text made logs short come. bad_session c.args.question.now _ _ log bad the_status text made come;
      ends = λ bad first second entries e said. refl;
    })
    c.in-Err.ensures.decides c.answer_without.ensures

pub returns-in-Err-clause-within : goal.returns-in-Err-clause-within
returns-in-Err-clause-within g c =
    stays_unread (reading_by c.args.orders.now g.F.Shelf c.args.shelf.now c.read_both.new.shelf) c.in-Err.why c.read_both.result c.answer_without.result c.in-Err.is c.read_both.ensures.within c.answer_without.ensures
