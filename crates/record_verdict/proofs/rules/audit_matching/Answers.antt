use Rattle.std.proofs.Common.{ap}
use Rattle.std.specs.Prelude.{Err}
use Rattle.matching_core.specs.declared.outcomes.CheckFault.{CheckFault}
use Rattle.audit_base.specs.declared.terms.CallRule.TheVariants as call
use Rattle.record_verdict.proofs.JudgeLemmas.{ok-then}
use Rattle.record_verdict.proofs.RuleLemmas.{broken-audited}
use Rattle.record_verdict.proofs.rules.audit_matching.Goals as goal

pub returns-in-Err : goal.returns-in-Err
returns-in-Err c =
    ok-then c.broken.result _ _
    (λ answer is. broken-audited c.args.orders.now c.args.deals.now call.Matching c.in-Err.fault answer (λ finding same. c.in-Err.ensures.found finding (ap (λ (f : CheckFault). Err f) same)) is)
    c.broken.ensures
