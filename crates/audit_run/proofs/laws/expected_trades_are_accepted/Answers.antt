use Rattle.audit_run.proofs.AcceptLemmas.{audit-accepts, expected-accepted}
use Rattle.audit_run.proofs.laws.expected_trades_are_accepted.Goals as goal

pub returns-clause-verdict : goal.returns-clause-verdict
returns-clause-verdict c = expected-accepted c.one_verdict.ensures c.held_logs_are_answered.ensures.read

pub returns-clause-audit : goal.returns-clause-audit
returns-clause-audit c = audit-accepts c.one_verdict.ensures c.held_logs_are_answered.ensures.read
