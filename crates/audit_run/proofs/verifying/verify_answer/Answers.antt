use Rattle.audit_run.proofs.ResultLemmas.{ok-then}
use Rattle.audit_run.proofs.VerifyAnswerLemmas.{found_verifies, sound_verifies}
use Rattle.audit_run.proofs.verifying.verify_answer.Goals as goal

pub returns-in-Found : goal.returns-in-Found
returns-in-Found c =
    ok-then c.finding_answer.result _ _
    (λ answer made. rw c.in-Found.is (found_verifies c.args.symbol.now c.args.certificate.now answer c.in-Found.finding made))
    c.finding_answer.ensures

pub returns-in-Sound : goal.returns-in-Sound
returns-in-Sound c =
    ok-then c.answer_sound.result _ _
    (λ answer is. rw c.in-Sound.is (sound_verifies c.args.symbol.now c.args.certificate.now answer c.in-Sound.resolved is))
    c.answer_sound.ensures
