use Rattle.day_logs.proofs.AnswerLemmas.{reads-answer, reads-without, stays-without}
use Rattle.day_sessions.specs.JudgedSessions.{AreSessionsOfDay}
use Rattle.log_verdict.specs.Steps.{reading_by}
use Rattle.record_verdict.specs.declared.scopes.Admission.TheVariants as admission
use Rattle.day_sessions.proofs.answers.sessions_on.Goals as goal

pub returns-in_ok-sessions_after-in-Ok-clause-decides : goal.returns-in_ok-sessions_after-in-Ok-clause-decides
returns-in_ok-sessions_after-in-Ok-clause-decides g c =
    reads-answer (reading_by c.args.orders.now g.F.Shelf c.args.shelf.now c.read_day.new.shelf) c.args.question.now.share admission.All (AreSessionsOfDay c.args.question.now.phases.now c.args.question.now.table c.args.question.now.checks c.args.question.now.share) c.args.orders.now c.args.trades.now c.in-Ok.given
    c.in_ok-sessions_after-in-Ok.field-0 c.in-Ok.ensures.decides c.in_ok-sessions_after-in-Ok.ensures

pub returns-in-Err-clause-decides : goal.returns-in-Err-clause-decides
returns-in-Err-clause-decides g c =
    rw c.day_without.ensures
    (reads-without (reading_by c.args.orders.now g.F.Shelf c.args.shelf.now c.read_day.new.shelf) (AreSessionsOfDay c.args.question.now.phases.now c.args.question.now.table c.args.question.now.checks c.args.question.now.share) c.args.orders.now c.args.trades.now c.in-Err.why c.in-Err.ensures.decides)

pub returns-in-Err-clause-within : goal.returns-in-Err-clause-within
returns-in-Err-clause-within g c =
    rw c.day_without.ensures
    (stays-without (reading_by c.args.orders.now g.F.Shelf c.args.shelf.now c.read_day.new.shelf) c.in-Err.why c.read_day.result c.in-Err.is c.read_day.ensures.within)
