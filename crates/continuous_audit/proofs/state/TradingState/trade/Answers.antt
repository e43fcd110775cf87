use Rattle.std.proofs.Common.{◌∙◌, Option, option_map, ap, subst}
use Rattle.audit_base.specs.declared.flaws.Flaw.{Flaw}
use Rattle.audit_base.specs.Flaws.{finding_of}
use Rattle.continuous_audit.specs.Flaws.{IsFindingOfFlaw}
use Rattle.continuous_audit.specs.Records.{conservation_at}
use Rattle.continuous_audit.proofs.FlawLemmas.{conservation-flaw, priority-flaw}
use Rattle.continuous_audit.proofs.state.TradingState.trade.Goals as goal

pub returns-in-Some-clause-found : goal.returns-in-Some-clause-found
returns-in-Some-clause-found c =
    let orders = c.args.market.now.orders.now in
    conservation-flaw c.args.market.now c.args.order c.in-Some.flaw
    (subst (λ (f : Option Flaw). IsFindingOfFlaw orders f (conservation_at orders c.args.market.now.deals.now c.args.order)) c.in-Some.is c.deal_order.ensures.found)

pub returns-clause-found : goal.returns-clause-found
returns-clause-found c = priority-flaw c.args.market.now c.args.order (c.deal_order.ensures.dealt c.in_default.is).conserved c.pass_deals.result c.pass_deals.ensures.found

pub returns-clause-after_deals : goal.returns-clause-after_deals
returns-clause-after_deals c = λ quiet. record {
  dealt = c.deal_order.ensures.dealt c.in_default.is;
  ranked = c.pass_deals.ensures.found.same ∙ ap (option_map (finding_of c.args.market.now.orders.now)) quiet;
  holds = c.pass_deals.ensures.holds quiet;
  dropped = c.requires.ready.dropped;
}
