use Rattle.std.proofs.lemmas.Result.{IfOk-weaker}
use Rattle.desk_page.proofs.answers.answer_digested.Goals as goal

pub returns : goal.returns
returns g c =
    IfOk-weaker c.answer_after.result _ _ (λ answer told. record { named = _; names = c.named_logs-named.ensures; told = told }) (rw c.question_of-question.ensures at c.answer_after.ensures)
