use Rattle.audit_certificate.proofs.VerifyLemmas.{as_rule, as_refused, asks, agrees-under, refused-none}
use Rattle.audit_certificate.proofs.verifying.verify.Goals as goal

pub returns-clause-agrees : goal.returns-clause-agrees
returns-clause-agrees c = as_rule c.check_lines.result c.map.result _ _ c.map.ensures.cases (λ r. agrees-under r c.args.symbol.now c.args.orders.now c.args.deals.now c.args.bytes.now) c.check_lines.ensures.agrees

pub returns-clause-rule : goal.returns-clause-rule
returns-clause-rule c = as_rule c.check_lines.result c.map.result _ _ c.map.ensures.cases (λ r _. asks r) c.check_lines.ensures.agrees

pub returns-clause-conforms : goal.returns-clause-conforms
returns-clause-conforms c = as_rule c.check_lines.result c.map.result _ _ c.map.ensures.cases (λ r agrees. c.certificate_soundness.ensures r c.args.symbol.now c.args.orders.now c.args.deals.now c.args.bytes.now c.requires.order_list agrees) c.check_lines.ensures.agrees

pub returns-clause-refused : goal.returns-clause-refused
returns-clause-refused c = as_refused c.check_lines.result c.map.result _ _ c.map.ensures.cases (λ number is. is) c.check_lines.ensures.refused

pub returns-clause-only : goal.returns-clause-only
returns-clause-only c = as_refused c.check_lines.result c.map.result _ _ c.map.ensures.cases (refused-none c.args.symbol.now c.args.orders.now c.args.deals.now c.args.bytes.now) c.check_lines.ensures.refused
