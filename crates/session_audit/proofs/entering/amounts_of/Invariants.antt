use Rattle.std.proofs.Common.{◌≡◌}
use Rattle.session_audit.specs.Entering.{amounts_below}
use Rattle.session_audit.proofs.entering.amounts_of.Given as goal

abbrev pub invariant-loop-index : goal.invariant-loop-index
invariant-loop-index l = l.amounts.items ≡ amounts_below l.orders l.first l.left l.chain_traded l.index
