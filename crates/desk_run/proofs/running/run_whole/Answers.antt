use Rattle.desk_words.specs.declared.requests.DeskRequest.TheVariants.{Whole}
use Rattle.desk_run.specs.TopCall.{desk_reading}
use Rattle.desk_run.proofs.running.run_whole.Goals as goal

pub returns-clause-answers : goal.returns-clause-answers
returns-clause-answers g c =
    c.write_answer.ensures.answers (Whole c.args.request.now) (desk_reading g.F.Shelf c.args.shelf.now c.answer_whole-decided.new.shelf) c.answer_whole-decided.ensures.decides

pub returns-clause-too_long : goal.returns-clause-too_long
returns-clause-too_long g c =
    c.write_answer.ensures.too_long (desk_reading g.F.Shelf c.args.shelf.now c.answer_whole-decided.new.shelf) c.answer_whole-decided.ensures.within
