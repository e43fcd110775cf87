use Rattle.std.proofs.lemmas.List.{take_all}
use Rattle.std.proofs.lemmas.List.Elements.{All-more}
use Rattle.std.proofs.Common.{subst}
use Rattle.audit_base.specs.Deals.{DealInRange}
use Rattle.audit_base.proofs.ranges.deals_in_range.Goals as goal

pub loop-deal-preserved : goal.loop-deal-preserved
loop-deal-preserved c =
    All-more DealInRange c.args.deals.now c.loop-deal.deal-index c.deal-item.result c.loop-deal-test.true c.loop-deal.invariant (subst DealInRange c.deal-item.is c.deal_in_range.ensures)

pub returns : goal.returns
returns c = rw (take_all c.loop-deal.deal-index c.args.deals.now c.loop-deal-test.false) at c.loop-deal.invariant
