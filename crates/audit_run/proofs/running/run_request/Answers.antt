use Rattle.log_verdict.specs.Steps.{reading}
use Rattle.audit_run.proofs.running.run_request.Goals as goal

pub returns-clause-answers : goal.returns-clause-answers
returns-clause-answers g c =
    c.write_answer.ensures.answers c.args.request.now (reading g.F.Shelf c.args.shelf.now c.answer_request-decided.new.shelf) c.answer_request-decided.ensures.decides

pub returns-clause-too_long : goal.returns-clause-too_long
returns-clause-too_long g c =
    c.write_answer.ensures.too_long (reading g.F.Shelf c.args.shelf.now c.answer_request-decided.new.shelf) c.answer_request-decided.ensures.within
