use Rattle.std.proofs.lemmas.Result.{IfOk-weaker}
use Rattle.desk_page.proofs.PageLemmas.{found-told, sound-told}
use Rattle.desk_page.proofs.answers.answer_after.Goals as goal

pub returns-in-Found : goal.returns-in-Found
returns-in-Found g c =
    IfOk-weaker c.answer_found.result _ _ (λ answer told. found-told g.D.Drawing.is_picture c.args.question.now c.args.named.now c.args.given.now c.in_ok-judged.judged answer c.in_ok-judged.ensures.verdict c.absent_symbols_have_nothing.ensures.found c.in-Found.finding c.in-Found.is told) c.answer_found.ensures

pub returns : goal.returns
returns g c =
    IfOk-weaker c.answer_sound.result _ _ (λ answer told. sound-told g.D.Drawing.is_picture c.args.question.now c.args.named.now c.args.given.now c.in_ok-judged.judged answer c.in_ok-judged.ensures.verdict c.absent_symbols_have_nothing.ensures.sound c.in-Sound.sound c.in-Sound.is told) c.answer_sound.ensures
