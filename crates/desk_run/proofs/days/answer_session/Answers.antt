use Rattle.std.proofs.Common.{refl}
use Rattle.log_verdict.specs.Steps.{reading_by}
use Rattle.desk_run.proofs.DayLemmas.{answer_status}
use Rattle.desk_run.specs.Deciding.{request_by_phases}
use Rattle.desk_run.proofs.days.answer_session.Goals as goal

pub returns-in_ok-phases_answer-in-Ok-clause-decides : goal.returns-in_ok-phases_answer-in-Ok-clause-decides
returns-in_ok-phases_answer-in-Ok-clause-decides g c =
    c.both_logs_decide.ensures.answers (request_by_phases c.args.question.now c.args.page c.args.orders.now c.args.trades.now) (c.args.question.now.phases.now, c.args.question.now.table, c.args.question.now.checks, c.args.question.now.share, c.in-Ok.day)
    (reading_by c.args.orders.now g.F.Shelf c.args.shelf.now c.sessions_on.new.shelf) c.args.orders.now c.args.trades.now _ _ c.in-Ok.ensures.later
    (record {
      starts = record { first = refl; second = λ bytes. refl };
      answer = λ logs short is. record { day = c.in-Ok.day; is = is; answer = c.in_ok-phases_answer-in-Ok.ensures };
      ends = λ first second entries e is. refl;
      status_of_logs = λ logs is. answer_status _ _ _ _ _ _ _ is;
    }) c.in-Ok.ensures.decides

pub returns-in-Err-clause-decides : goal.returns-in-Err-clause-decides
returns-in-Err-clause-decides g c =
    c.both_logs_decide.ensures.stops (request_by_phases c.args.question.now c.args.page c.args.orders.now c.args.trades.now) (reading_by c.args.orders.now g.F.Shelf c.args.shelf.now c.sessions_on.new.shelf) c.args.orders.now c.args.trades.now c.in-Err.stop
    c.in-Err.ensures.later (record { first = refl; second = λ bytes. refl }) c.in-Err.ensures.decides
