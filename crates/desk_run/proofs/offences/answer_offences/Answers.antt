use Rattle.log_verdict.specs.Steps.{reading_by}
use Rattle.desk_run.proofs.OffenceLemmas.{offences_decide}
use Rattle.desk_run.specs.Deciding.{request_for_offences}
use Rattle.desk_run.proofs.offences.answer_offences.Goals as goal

pub returns-clause-decides : goal.returns-clause-decides
returns-clause-decides g c =
    let request = request_for_offences c.args.question.now c.args.orders.now c.args.trades.now in
    offences_decide c.args.question.now c.args.orders.now c.args.trades.now (reading_by c.args.orders.now g.F.Shelf c.args.shelf.now c.offences_on.new.shelf)
    (c.both_logs_decide.ensures.answers request) (c.both_logs_decide.ensures.stops request) c.offences_on.ensures.later c.offences_on.result c.offences_on.ensures.decides
