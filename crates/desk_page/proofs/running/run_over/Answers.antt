use Rattle.desk_page.proofs.TopLemmas.{answers-decided}
use Rattle.desk_page.proofs.running.run_over.Goals as goal

pub returns-clause-answers : goal.returns-clause-answers
returns-clause-answers g c =
    answers-decided g.D.Drawing.is_picture g.W.PageLogsGhost.shelf _ c.args.request.now _ _ c.write_answer.result.status c.answer_page-decided.result c.requires
    (c.held_logs_are_answered.ensures.written c.args.request.now) (c.write_answer.ensures.answers c.args.request.now) c.write_answer.ensures.too_long
    c.answer_page-decided.ensures.decides c.answer_page-decided.ensures.within c.answer_page-decided.ensures.later
