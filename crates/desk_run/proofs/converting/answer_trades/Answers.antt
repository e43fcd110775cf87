use Rattle.std.proofs.Common.{◌∙◌, ap, Ok}
use Rattle.audit_base.specs.declared.terms.Which.TheVariants.{Trades}
use Rattle.desk_run.specs.WrittenLogs.{IsWrittenLogAnswer}
use Rattle.desk_run.proofs.ContentsLemmas.{unread_decides, unread_within}
use Rattle.desk_run.proofs.WrittenLemmas.{alone-answered, trades-answered}
use Rattle.log_verdict.specs.LogVerdicts.{log_in, trades_of_trade_log}
use Rattle.log_verdict.specs.Steps.{reading_by}
use Rattle.desk_run.proofs.converting.answer_trades.Goals as goal

pub returns-in-Ok-Trades-clause-decides : goal.returns-in-Ok-Trades-clause-decides
returns-in-Ok-Trades-clause-decides g c =
    trades-answered (reading_by c.args.source.now g.F.Shelf c.args.shelf.now c.convert_trades.new.shelf) c.args.source.now.name.now c.args.source.now.form c.args.into c.done_answer.result
    c.in-Ok-Trades.text c.done_answer.ensures.status c.done_answer.ensures.text (rw (c.in-Ok-Trades.is ∙ ap Ok c.in-Ok-Trades.field-0-is) at c.convert_trades.ensures.read)

pub returns-in_ok-finding_answer-in-Ok-Alone-clause-decides : goal.returns-in_ok-finding_answer-in-Ok-Alone-clause-decides
returns-in_ok-finding_answer-in-Ok-Alone-clause-decides g c =
    alone-answered (reading_by c.args.source.now g.F.Shelf c.args.shelf.now c.convert_trades.new.shelf) c.args.source.now.name.now c.args.source.now.form c.args.into c.in_ok-finding_answer-in-Ok-Alone.field-0
    c.in-Ok-Alone.finding c.in_ok-finding_answer-in-Ok-Alone.ensures (rw (c.in-Ok-Alone.is ∙ ap Ok c.in-Ok-Alone.field-0-is) at c.convert_trades.ensures.read)

pub returns-in-Err-clause-decides : goal.returns-in-Err-clause-decides
returns-in-Err-clause-decides g c =
    unread_decides (reading_by c.args.source.now g.F.Shelf c.args.shelf.now c.convert_trades.new.shelf) Trades c.args.source.now.name.now (trades_of_trade_log c.args.source.now.form)
    (λ bytes. IsWrittenLogAnswer Trades c.args.into (log_in c.args.source.now.form bytes)) c.in-Err.unread c.unread_answer.result
    (λ bytes bad s text e is. rw e is) c.in-Err.ensures.read c.unread_answer.ensures

pub returns-in-Err-clause-within : goal.returns-in-Err-clause-within
returns-in-Err-clause-within g c = λ begins.
    unread_within (reading_by c.args.source.now g.F.Shelf c.args.shelf.now c.convert_trades.new.shelf) Trades c.in-Err.unread c.unread_answer.result
    (λ other. c.in-Err.ensures.within begins (λ e. other (cc))) c.unread_answer.ensures
