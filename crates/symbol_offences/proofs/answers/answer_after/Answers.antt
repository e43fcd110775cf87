use Rattle.std.proofs.lemmas.Result.{IfOk-weaker}
use Rattle.symbol_offences.proofs.AnswerLemmas.{found-told, sound-told}
use Rattle.symbol_offences.proofs.answers.answer_after.Goals as goal

pub returns-in-Found : goal.returns-in-Found
returns-in-Found c =
    let stages = rw c.audit.ensures at c.in_ok-judged.ensures.verdict in
    IfOk-weaker c.answer_before_rule.result _ _ (λ answer told. found-told c.args.question.now c.args.logs.now c.in_ok-judged.judged answer stages c.in-Found.finding c.in-Found.is told) c.answer_before_rule.ensures

pub returns-in-Sound : goal.returns-in-Sound
returns-in-Sound c =
    let stages = rw c.audit.ensures at c.in_ok-judged.ensures.verdict in
    IfOk-weaker c.answer_sound.result _ _ (λ answer told. sound-told c.args.question.now c.args.logs.now c.in_ok-judged.judged answer stages c.in-Sound.sound c.in-Sound.is told) (rw c.deref.ensures.value at c.answer_sound.ensures)
