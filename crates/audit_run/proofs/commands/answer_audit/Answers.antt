use Rattle.std.proofs.Common.{refl}
use Rattle.log_verdict.specs.Steps.{reading_by}
use Rattle.audit_run.specs.Deciding.{request_to_audit}
use Rattle.audit_run.proofs.AnswerLemmas.{audit-status}
use Rattle.audit_run.proofs.commands.answer_audit.Goals as goal

pub returns-in_ok-verdict_answer-in-Ok-clause-decides : goal.returns-in_ok-verdict_answer-in-Ok-clause-decides
returns-in_ok-verdict_answer-in-Ok-clause-decides g c =
    let made = c.in_ok-verdict_answer-in-Ok.ensures in
    c.both_logs_decide.ensures.answers (request_to_audit c.args.question.now c.args.orders.now c.args.trades.now) (c.args.question.now, c.in-Ok.verdict)
    (reading_by c.args.orders.now g.F.Shelf c.args.shelf.now c.verdict_on.new.shelf) c.args.orders.now c.args.trades.now _ _ c.in-Ok.ensures.later
    (record {
      starts = record { first = refl; second = λ bytes. refl };
      answer = λ logs short is. record { verdict = c.in-Ok.verdict; is = is; answer = made };
      ends = λ first second entries e is. refl;
      status_of_logs = λ logs is. audit-status _ _ _ _ _ is;
    }) c.in-Ok.ensures.decides

pub returns-in-Err-clause-decides : goal.returns-in-Err-clause-decides
returns-in-Err-clause-decides g c =
    c.both_logs_decide.ensures.stops (request_to_audit c.args.question.now c.args.orders.now c.args.trades.now) (reading_by c.args.orders.now g.F.Shelf c.args.shelf.now c.verdict_on.new.shelf) c.args.orders.now c.args.trades.now c.in-Err.stop
    c.in-Err.ensures.later (record { first = refl; second = λ bytes. refl }) c.in-Err.ensures.decides
