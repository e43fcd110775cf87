use Rattle.std.proofs.Common.{rules}
use Rattle.continuous_audit.proofs.IncomingLemmas.{are-incoming_deals}
use Rattle.continuous_audit.proofs.incoming_deals.sort_incoming_deals.Goals as goal

pub returns : goal.returns
returns c = are-incoming_deals c.args.orders.now c.args.deals.now _ (search rules) (search rules)
