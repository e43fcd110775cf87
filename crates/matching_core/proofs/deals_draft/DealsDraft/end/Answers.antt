use Rattle.std.proofs.Common.{◌≡◌, List, subst}
use Rattle.audit_base.specs.declared.orders.Order.{Order}
use Rattle.audit_base.specs.Trades.{deals_of_symbol, trades_finding}
use Rattle.matching_core.specs.DealsSoFar.{IsDealsOrFlaw}
use Rattle.matching_core.proofs.deals_draft.DealsDraft.end.Goals as goal

pub returns-clause-finding : goal.returns-clause-finding
returns-clause-finding g c = λ trades has.
    subst (λ (orders : List Order). IsDealsOrFlaw orders g.M.HistoryGhost.symbol c.args.self.so_far.kept trades → trades_finding orders g.M.HistoryGhost.symbol trades ≡ c.end.result.finding)
    has.among (c.end.ensures.finding g.M.HistoryGhost.symbol trades) has.so_far.kept

pub returns-clause-deals : goal.returns-clause-deals
returns-clause-deals g c = λ trades has none.
    subst (λ (orders : List Order). IsDealsOrFlaw orders g.M.HistoryGhost.symbol c.args.self.so_far.kept trades → c.end.result.deals.items ≡ deals_of_symbol orders g.M.HistoryGhost.symbol trades)
    has.among (c.end.ensures.deals none g.M.HistoryGhost.symbol trades) has.so_far.kept
