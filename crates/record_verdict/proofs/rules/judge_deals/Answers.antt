use Rattle.record_verdict.proofs.JudgeLemmas.{ok-then}
use Rattle.record_verdict.proofs.RuleLemmas.{judged_conforming, judged_broken}
use Rattle.record_verdict.proofs.rules.judge_deals.Goals as goal

pub returns-in-Conforms : goal.returns-in-Conforms
returns-in-Conforms c =
    let is = rw c.in-Conforms.is at c.in_ok-outcome.ensures in
    ok-then c.accept.result _ _
    (λ verdict same. rw same (judged_conforming c.args.orders.now c.args.deals.now c.args.count c.args.question.now c.in-Conforms.conforming is))
    c.accept.ensures

pub returns-in-Broken : goal.returns-in-Broken
returns-in-Broken c =
    judged_broken c.args.orders.now c.args.deals.now c.args.count c.args.question.now c.in-Broken.finding (rw c.in-Broken.is at c.in_ok-outcome.ensures)
