use Rattle.std.proofs.Common.{◌∙◌, refl, sym}
use Rattle.audit_base.specs.declared.terms.Which.TheVariants.{Orders}
use Rattle.command_run.specs.InTurn.{ReadsInTurn}
use Rattle.desk_run.proofs.ContentsLemmas.{bad_orders, first_later, first_within, good_orders, orders_decide, status_of_items, trades_decide, unread_within}
use Rattle.desk_run.specs.Contents.{request_of_contents}
use Rattle.desk_run.specs.Requests.{desk_command_of}
use Rattle.log_verdict.specs.Steps.{reading_by}
use Rattle.desk_run.proofs.contents.answer_contents.Goals as goal

pub returns-in-Ok-clause-logs : goal.returns-in-Ok-clause-logs
returns-in-Ok-clause-logs g c =
    record {
      tells = c.answer_after_orders.ensures.logs.tells ∙ c.in-Ok.ensures.logs.tells;
      logs = λ log name. c.answer_after_orders.ensures.logs.logs log name ∙ c.in-Ok.ensures.logs.logs log name;
    }

pub returns-in-Ok-clause-later : goal.returns-in-Ok-clause-later
returns-in-Ok-clause-later g c =
    let first = reading_by c.args.orders.now g.F.Shelf c.args.shelf.now c.summary_of_orders.new.shelf in
    let second = reading_by c.args.trades.now g.F.Shelf c.summary_of_orders.new.shelf c.answer_after_orders.new.shelf in
    let on : ReadsInTurn first second = record { limit = sym c.requires.limit.same; tells = c.in-Ok.ensures.logs.tells; logs = c.in-Ok.ensures.logs.logs; begins = λ log. refl; orders = c.in-Ok.ensures.only; trades = c.answer_after_orders.ensures.only } in
    c.readings_in_turn_are_one.ensures.later first second on

pub returns-in-Ok-clause-decides : goal.returns-in-Ok-clause-decides
returns-in-Ok-clause-decides g c =
    let first = reading_by c.args.orders.now g.F.Shelf c.args.shelf.now c.summary_of_orders.new.shelf in
    let second = reading_by c.args.trades.now g.F.Shelf c.summary_of_orders.new.shelf c.answer_after_orders.new.shelf in
    let on : ReadsInTurn first second = record { limit = sym c.requires.limit.same; tells = c.in-Ok.ensures.logs.tells; logs = c.in-Ok.ensures.logs.logs; begins = λ log. refl; orders = c.in-Ok.ensures.only; trades = c.answer_after_orders.ensures.only } in
    let request = request_of_contents c.args.orders.now c.args.trades.now in
    let is = c.in-Ok.ensures.read in
    trades_decide (desk_command_of request) c.args.orders.now c.args.trades.now (record { first = refl; second = λ bytes. refl }) (c.both_logs_decide.ensures.stops request) (c.read_logs_decide.ensures request)
    first second on (c.readings_in_turn_are_one.ensures.later first second on) is.bytes c.answer_after_orders.result is.read (good_orders c.args.orders.now.form is.bytes is.holds.items is.holds.has)
    (λ one other. refl) (λ logs s text answer. status_of_items _ _ s text answer)
    (rw is.holds.has (c.answer_after_orders.ensures.decides is.holds.items is.holds.is))

pub returns-in-Ok-clause-within : goal.returns-in-Ok-clause-within
returns-in-Ok-clause-within g c =
    let first = reading_by c.args.orders.now g.F.Shelf c.args.shelf.now c.summary_of_orders.new.shelf in
    let second = reading_by c.args.trades.now g.F.Shelf c.summary_of_orders.new.shelf c.answer_after_orders.new.shelf in
    let on : ReadsInTurn first second = record { limit = sym c.requires.limit.same; tells = c.in-Ok.ensures.logs.tells; logs = c.in-Ok.ensures.logs.logs; begins = λ log. refl; orders = c.in-Ok.ensures.only; trades = c.answer_after_orders.ensures.only } in
    c.readings_in_turn_are_one.ensures.within first second c.answer_after_orders.result on (c.in-Ok.ensures.within (λ e. cc)) c.answer_after_orders.ensures.within

pub returns-in-Err-clause-later : goal.returns-in-Err-clause-later
returns-in-Err-clause-later g c = first_later (reading_by c.args.orders.now g.F.Shelf c.args.shelf.now c.summary_of_orders.new.shelf) c.in-Err.ensures.only

pub returns-in-Err-clause-decides : goal.returns-in-Err-clause-decides
returns-in-Err-clause-decides g c =
    let request = request_of_contents c.args.orders.now c.args.trades.now in
    orders_decide (desk_command_of request) c.args.orders.now c.args.trades.now (record { first = refl; second = λ bytes. refl }) (c.both_logs_decide.ensures.stops request) (c.read_logs_decide.ensures request)
    (reading_by c.args.orders.now g.F.Shelf c.args.shelf.now c.summary_of_orders.new.shelf) c.in-Err.unread c.unread_answer.result c.in-Err.ensures.only
    (λ bytes bad s text e is. rw (bad_orders c.args.orders.now.form bytes bad e) is) c.in-Err.ensures.read c.unread_answer.ensures

pub returns-in-Err-clause-within : goal.returns-in-Err-clause-within
returns-in-Err-clause-within g c =
    first_within (reading_by c.args.orders.now g.F.Shelf c.args.shelf.now c.summary_of_orders.new.shelf) c.unread_answer.result c.in-Err.ensures.only
    (unread_within (reading_by c.args.orders.now g.F.Shelf c.args.shelf.now c.summary_of_orders.new.shelf) Orders c.in-Err.unread c.unread_answer.result
    (λ other. c.in-Err.ensures.within (λ e. other (cc))) c.unread_answer.ensures)
