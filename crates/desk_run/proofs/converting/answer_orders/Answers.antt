use Rattle.audit_base.specs.declared.terms.Which.TheVariants.{Orders}
use Rattle.desk_run.specs.WrittenLogs.{IsWrittenLogAnswer}
use Rattle.desk_run.proofs.ContentsLemmas.{unread_decides, unread_within}
use Rattle.desk_run.proofs.WrittenLemmas.{orders-answered}
use Rattle.log_verdict.specs.LogVerdicts.{log_in, records_of_order_log}
use Rattle.log_verdict.specs.Steps.{reading_by}
use Rattle.desk_run.proofs.converting.answer_orders.Goals as goal

pub returns-in-Ok-clause-decides : goal.returns-in-Ok-clause-decides
returns-in-Ok-clause-decides g c =
    orders-answered (reading_by c.args.source.now g.F.Shelf c.args.shelf.now c.convert_orders.new.shelf) c.args.source.now.name.now c.args.source.now.form c.args.into c.done_answer.result
    c.in-Ok.text c.done_answer.ensures.status c.done_answer.ensures.text c.in-Ok.ensures.read

pub returns-in-Err-clause-decides : goal.returns-in-Err-clause-decides
returns-in-Err-clause-decides g c =
    unread_decides (reading_by c.args.source.now g.F.Shelf c.args.shelf.now c.convert_orders.new.shelf) Orders c.args.source.now.name.now (records_of_order_log c.args.source.now.form)
    (λ bytes. IsWrittenLogAnswer Orders c.args.into (log_in c.args.source.now.form bytes)) c.in-Err.unread c.unread_answer.result
    (λ bytes bad s text e is. rw e is) c.in-Err.ensures.read c.unread_answer.ensures

pub returns-in-Err-clause-within : goal.returns-in-Err-clause-within
returns-in-Err-clause-within g c = λ begins.
    unread_within (reading_by c.args.source.now g.F.Shelf c.args.shelf.now c.convert_orders.new.shelf) Orders c.in-Err.unread c.unread_answer.result
    (λ other. c.in-Err.ensures.within begins (λ e. other (cc))) c.unread_answer.ensures
