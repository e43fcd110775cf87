use Rattle.std.proofs.Common.{refl}
use Rattle.log_verdict.specs.Steps.{reading}
use Rattle.case_run.proofs.AnswerLemmas.{answers_list, answers_show}
use Rattle.case_run.proofs.answers.answer_to.Goals as goal

pub returns-in-List-clause-answers : goal.returns-in-List-clause-answers
returns-in-List-clause-answers g c =
    rw c.in-List.is (answers_list (reading g.F.Shelf c.args.shelf.now c.args.shelf.now) _ _ (λ log. refl) _ c.list.result c.list.ensures.lists)

pub returns-in-Show-clause-answers : goal.returns-in-Show-clause-answers
returns-in-Show-clause-answers g c =
    rw c.in-Show.is (answers_show (reading g.F.Shelf c.args.shelf.now c.args.shelf.now) _ _ (λ log. refl) _ c.show.result c.show.ensures.shows)
