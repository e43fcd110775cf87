use Rattle.std.proofs.Common.{rules}
use Rattle.continuous_audit.proofs.EndingLemmas.{are-endings}
use Rattle.continuous_audit.proofs.endings.sort_endings.Goals as goal

pub returns : goal.returns
returns c = are-endings c.args.orders.now _ (search rules) (search rules)
