use Rattle.audit_certificate.proofs.OneLemmas.{agreed-rule, first-refused}
use Rattle.audit_certificate.proofs.one_answer.one_answer_for_a_text.Goals as goal

pub returns-clause-rule : goal.returns-clause-rule
returns-clause-rule c = agreed-rule

pub returns-clause-line : goal.returns-clause-line
returns-clause-line c = first-refused
