use Rattle.log_contents.specs.DayItems.{trade_log_items}
use Rattle.desk_run.specs.Contents.{IsAnswerAfterOrders}
use Rattle.desk_run.proofs.ContentsLemmas.{unread_decides, unread_within}
use Rattle.log_verdict.specs.Steps.{reading_by}
use Rattle.audit_base.specs.declared.terms.Which.TheVariants.{Trades}
use Rattle.desk_run.proofs.contents.answer_after_orders.Goals as goal

pub returns-in_ok-contents_text-in-Ok-clause-decides : goal.returns-in_ok-contents_text-in-Ok-clause-decides
returns-in_ok-contents_text-in-Ok-clause-decides g c = λ items of_items.
    let is = c.in-Ok.ensures.read in
    let done = c.in_ok-contents_text-in-Ok.ensures items is.holds.items of_items is.holds.is in
    record {
      bytes = is.bytes;
      read = is.read;
      holds = rw is.holds.has (record { done = c.done_answer.ensures.status; is = rw c.done_answer.ensures.text done });
    }

pub returns-in-Err-clause-decides : goal.returns-in-Err-clause-decides
returns-in-Err-clause-decides g c = λ items of_items.
    unread_decides (reading_by c.args.trades.now g.F.Shelf c.args.shelf.now c.summary_of_trades.new.shelf) Trades c.args.trades.now.name.now (trade_log_items c.args.trades.now.form)
    (λ bytes. IsAnswerAfterOrders items (trade_log_items c.args.trades.now.form bytes)) c.in-Err.unread c.unread_answer.result
    (λ bytes bad s text e is. rw e is) c.in-Err.ensures.read c.unread_answer.ensures

pub returns-in-Err-clause-within : goal.returns-in-Err-clause-within
returns-in-Err-clause-within g c =
    unread_within (reading_by c.args.trades.now g.F.Shelf c.args.shelf.now c.summary_of_trades.new.shelf) Trades c.in-Err.unread c.unread_answer.result
    (λ other. c.in-Err.ensures.within (λ e. other (cc))) c.unread_answer.ensures
