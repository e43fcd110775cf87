use Rattle.session_audit.specs.Numbers.{AreChainTotals}
use Rattle.session_audit.proofs.chains.chain_totals.Given as goal

abbrev pub invariant-loop-index : goal.invariant-loop-index
invariant-loop-index l = AreChainTotals l.orders l.traded l.index l.totals.items
