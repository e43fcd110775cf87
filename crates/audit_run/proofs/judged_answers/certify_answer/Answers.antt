use Rattle.audit_run.proofs.ResultLemmas.{ok-then}
use Rattle.audit_run.proofs.JudgedAnswerLemmas.{found_certifies, sound_certifies}
use Rattle.audit_run.proofs.judged_answers.certify_answer.Goals as goal

pub returns-in-Found : goal.returns-in-Found
returns-in-Found c =
    let is = rw c.in-Found.is at c.in_ok-judged.ensures.verdict in
    ok-then c.finding_answer.result _ _
    (λ answer made. rw c.in-Found.is (found_certifies c.args.question.now c.in-Found.finding c.in_ok-judged.judged answer is made))
    c.finding_answer.ensures

pub returns : goal.returns
returns c =
    let is = rw c.in-Sound.is at c.in_ok-judged.ensures.verdict in
    ok-then c.certified_answer.result _ _
    (λ answer made. rw c.in-Sound.is (sound_certifies c.args.question.now c.in-Sound.resolved c.in_ok-judged.judged answer is made))
    c.certified_answer.ensures
