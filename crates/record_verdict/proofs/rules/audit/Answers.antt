use Rattle.std.proofs.Common.{◌∙◌, sym}
use Rattle.record_verdict.proofs.JudgeLemmas.{ok-then}
use Rattle.record_verdict.proofs.RuleLemmas.{call-rule_is, no-call_rule_is, continuous_audited}
use Rattle.record_verdict.proofs.rules.audit.Goals as goal

pub returns-in-Some : goal.returns-in-Some
returns-in-Some c = rw (← call-rule_is c.args.rule c.in-Some.rule (sym c.call_rule.ensures ∙ c.in-Some.is)) c.audit_call.ensures

pub returns-in-None : goal.returns-in-None
returns-in-None c =
    rw (no-call_rule_is c.args.rule (sym c.call_rule.ensures ∙ c.in-None.is))
    (ok-then c.audit_continuous.result _ _ (λ answer is. continuous_audited c.args.orders.now c.args.deals.now c.args.count c.requires.regular answer is) c.audit_continuous.ensures)
