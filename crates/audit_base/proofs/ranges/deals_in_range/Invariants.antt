use Rattle.std.proofs.Common.{All, take}
use Rattle.audit_base.specs.Deals.{DealInRange}
use Rattle.audit_base.proofs.ranges.deals_in_range.Given as goal

abbrev pub invariant-loop-deal : goal.invariant-loop-deal
invariant-loop-deal l = All DealInRange (take l.deal-index l.deals)
