use Rattle.record_verdict.proofs.JudgeLemmas.{ok-then}
use Rattle.record_verdict.proofs.RuleLemmas.{greatest_audited}
use Rattle.record_verdict.proofs.rules.audit_call.Goals as goal

pub returns-in-Matching : goal.returns-in-Matching
returns-in-Matching c = rw c.in-Matching.is (ok-then c.audit_matching.result _ _ (λ answer is. is c.args.count) c.audit_matching.ensures)

pub returns-in-Fair : goal.returns-in-Fair
returns-in-Fair c = rw c.in-Fair.is (ok-then c.audit_fair.result _ _ (λ answer is. is c.args.count) c.audit_fair.ensures)

pub returns-in-Greatest : goal.returns-in-Greatest
returns-in-Greatest c =
    rw c.in-Greatest.is (ok-then c.audit_greatest.result _ _ (λ answer is. greatest_audited c.args.orders.now c.args.deals.now c.args.count c.in-Greatest.rule answer is) c.audit_greatest.ensures)
