use Rattle.std.proofs.Common.{◌∙◌, ap, Err, inr, refl}
use Rattle.std.specs.List.{flat_map}
use Rattle.desk_words.specs.declared.requests.DeskRequest.TheVariants.{Early}
use Rattle.desk_words.specs.declared.requests.EarlyRequest.TheVariants.{Plain}
use Rattle.desk_run.specs.PlainAnswers.{day_reading, day_writes}
use Rattle.desk_run.specs.TopCall.{desk_reading}
use Rattle.desk_run.proofs.PlainLemmas.{end-written, ended-messages, ended-within, first_later, rest-at-end, rest-at-stop, sink-failed, stays-on, stop-written, stopped-messages}
use Rattle.desk_run.proofs.plain.run_plain.Goals as goal

pub returns-in-Ok-clause-answers : goal.returns-in-Ok-clause-answers
returns-in-Ok-clause-answers g c =
    let r = desk_reading g.F.Shelf c.args.shelf.now c.write_day.new.shelf in
    let only = c.in-Ok.ensures.only in
    let is = c.in-Ok.ensures.writes in
    c.write_answer.ensures.rest (Early (Plain c.args.day.now c.args.dress.now)) r (g.K.Sink.state c.args.out.now) (flat_map (day_writes c.args.dress.now) is.bodies) refl
    (end-written r c.args.day.now c.args.dress.now only (g.K.Sink.state c.args.out.now) (g.K.Sink.state c.write_day.new.out) c.in-Ok.end is c.in-Ok.ensures.stays)
    (rest-at-end r c.args.day.now c.args.dress.now only (g.K.Sink.state c.args.out.now) (g.K.Sink.state c.write_day.new.out) c.in-Ok.end is c.end_or_stop.result c.end_or_stop.ensures)

pub returns-in-Ok-clause-too_long : goal.returns-in-Ok-clause-too_long
returns-in-Ok-clause-too_long g c =
    let r = desk_reading g.F.Shelf c.args.shelf.now c.write_day.new.shelf in
    c.write_answer.ensures.too_long r (ended-within r c.in-Ok.end c.end_or_stop.result c.in-Ok.ensures.within)

pub returns-in-Ok-clause-later : goal.returns-in-Ok-clause-later
returns-in-Ok-clause-later g c = first_later (desk_reading g.F.Shelf c.args.shelf.now c.write_day.new.shelf) c.in-Ok.ensures.only

pub returns-in-Ok-clause-stays : goal.returns-in-Ok-clause-stays
returns-in-Ok-clause-stays g c = stays-on _ _ _ c.in-Ok.ensures.stays c.write_answer.ensures.stays

pub returns-in-Err-Log-clause-answers : goal.returns-in-Err-Log-clause-answers
returns-in-Err-Log-clause-answers g c =
    let r = desk_reading g.F.Shelf c.args.shelf.now c.write_day.new.shelf in
    let only = c.write_day.ensures.only in
    let is = rw (c.in-Err-Log.is ∙ ap Err c.in-Err-Log.field-0-is) at c.write_day.ensures.writes in
    c.write_answer-in-Err-Log.ensures.rest (Early (Plain c.args.day.now c.args.dress.now)) r (g.K.Sink.state c.args.out.now) (flat_map (day_writes c.args.dress.now) is.early.bodies) refl
    (stop-written r c.args.day.now c.args.dress.now only (g.K.Sink.state c.args.out.now) (g.K.Sink.state c.write_day.new.out) c.in-Err-Log.fault is c.write_day.ensures.stays)
    (rw (c.stop_of_take.ensures, c.in-Err-Log.field-0-is) (rest-at-stop r c.args.day.now c.args.dress.now only (g.K.Sink.state c.args.out.now) (g.K.Sink.state c.write_day.new.out) c.in-Err-Log.fault is))

pub returns-in-Err-Log-clause-later : goal.returns-in-Err-Log-clause-later
returns-in-Err-Log-clause-later g c = first_later (desk_reading g.F.Shelf c.args.shelf.now c.write_day.new.shelf) c.write_day.ensures.only

pub returns-in-Err-Log-clause-stays : goal.returns-in-Err-Log-clause-stays
returns-in-Err-Log-clause-stays g c = stays-on _ _ _ c.write_day.ensures.stays c.write_answer-in-Err-Log.ensures.stays

pub returns-in-Err-Log-clause-too_long : goal.returns-in-Err-Log-clause-too_long
returns-in-Err-Log-clause-too_long g c =
    let r = desk_reading g.F.Shelf c.args.shelf.now c.write_day.new.shelf in
    let within = rw (c.in-Err-Log.is ∙ ap Err c.in-Err-Log.field-0-is) at c.write_day.ensures.within in
    c.write_answer-in-Err-Log.ensures.too_long r (rw (c.stop_of_take.ensures, c.in-Err-Log.field-0-is) within)

pub returns-in-Err-Sink-clause-answers : goal.returns-in-Err-Sink-clause-answers
returns-in-Err-Sink-clause-answers g c =
    let r = desk_reading g.F.Shelf c.args.shelf.now c.write_day.new.shelf in
    let is = rw (c.in-Err-Sink.is ∙ ap Err c.in-Err-Sink.field-0-is) at c.write_day.ensures.writes in
    sink-failed r c.args.day.now c.args.dress.now c.write_day.ensures.only (g.K.Sink.state c.args.out.now) (g.K.Sink.state c.write_day.new.out) is

pub returns-in-Err-Sink-clause-later : goal.returns-in-Err-Sink-clause-later
returns-in-Err-Sink-clause-later g c = first_later (desk_reading g.F.Shelf c.args.shelf.now c.write_day.new.shelf) c.write_day.ensures.only

pub returns-in-Err-Sink-clause-too_long : goal.returns-in-Err-Sink-clause-too_long
returns-in-Err-Sink-clause-too_long g c = λ begins. inr (inr refl)

pub returns-in-Ok-clause-messages : goal.returns-in-Ok-clause-messages
returns-in-Ok-clause-messages g c =
    let r = desk_reading g.F.Shelf c.args.shelf.now c.write_day.new.shelf in
    ended-messages r c.args.day.now c.args.dress.now c.in-Ok.ensures.only (g.K.Sink.state c.args.out.now) (g.K.Sink.state c.write_day.new.out) (g.K.Sink.state c.write_answer.new.out) c.in-Ok.end c.in-Ok.ensures.writes
    c.end_or_stop.result c.write_answer.result.status c.end_or_stop.ensures c.write_answer.ensures.writes

pub returns-in-Err-Log-clause-messages : goal.returns-in-Err-Log-clause-messages
returns-in-Err-Log-clause-messages g c =
    let r = desk_reading g.F.Shelf c.args.shelf.now c.write_day.new.shelf in
    let is = rw (c.in-Err-Log.is ∙ ap Err c.in-Err-Log.field-0-is) at c.write_day.ensures.writes in
    stopped-messages r (day_writes c.args.dress.now) (day_reading c.args.dress.now) c.args.day.now (g.K.Sink.state c.args.out.now) (g.K.Sink.state c.write_day.new.out) (g.K.Sink.state c.write_answer-in-Err-Log.new.out) c.in-Err-Log.fault _
    c.write_answer-in-Err-Log.result.status is (rw (c.stop_of_take.ensures, c.in-Err-Log.field-0-is) at c.write_answer-in-Err-Log.ensures.writes)
