use Rattle.fix_days.proofs.LogLemmas.{fix-logs}
use Rattle.fix_days.proofs.laws.fix_logs_are_days.Goals as goal

pub returns : goal.returns
returns c = fix-logs
