use Rattle.record_verdict.proofs.JudgeLemmas.{ok-then}
use Rattle.record_verdict.proofs.VerdictLemmas.{found_is, sound_is}
use Rattle.record_verdict.proofs.verdicts.verdict_after.Goals as goal

pub returns-in-Found-clause-verdict : goal.returns-in-Found-clause-verdict
returns-in-Found-clause-verdict c = rw c.in-Found.is (found_is c.args.question.now c.in-Found.finding)

pub returns-in-Sound-clause-verdict : goal.returns-in-Sound-clause-verdict
returns-in-Sound-clause-verdict c =
    let judgeable = rw c.in-Sound.is at c.requires in
    ok-then c.judge_deals.result _ _
    (λ judged is. rw c.in-Sound.is (sound_is c.args.question.now c.in-Sound.resolved judged judgeable is))
    (rw (c.orders-orders.ensures.same, c.deref.ensures.value) at c.judge_deals.ensures)
