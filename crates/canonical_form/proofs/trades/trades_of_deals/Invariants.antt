use Rattle.std.proofs.Common.{◌≡◌, take}
use Rattle.audit_base.specs.Expected.{trades_of_deals}
use Rattle.canonical_form.proofs.trades.trades_of_deals.Given as goal

abbrev pub invariant-loop-index : goal.invariant-loop-index
invariant-loop-index l = l.trades.items ≡ trades_of_deals l.orders l.symbol (take l.index l.deals)
