use Rattle.log_verdict.specs.Steps.{reading}
use Rattle.case_run.proofs.AnswerLemmas.{answers_file}
use Rattle.case_run.proofs.answers.file.Goals as goal

pub returns-in-Ok-clause-answers : goal.returns-in-Ok-clause-answers
returns-in-Ok-clause-answers g c =
    answers_file (reading g.F.Shelf c.args.shelf.now c.verdict_of.new.shelf) (g.B.Keeper.state c.args.book.now) (g.B.Keeper.state c.file_verdict.new.book) c.args.filing.now
    c.in-Ok.verdict c.file_verdict.result c.in-Ok.ensures.decides c.file_verdict.ensures.files
