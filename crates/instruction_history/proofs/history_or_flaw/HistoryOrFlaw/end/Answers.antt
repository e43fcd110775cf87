use Rattle.std.proofs.Common.{List, sym, ap, subst, ◌∙◌}
use Rattle.audit_base.specs.declared.orders.Order.{Order}
use Rattle.audit_base.specs.Orders.{OrdersInRange}
use Rattle.instruction_history.specs.Flaws.{flaw_finding}
use Rattle.instruction_history.specs.MarketPrices.{AreMarketPriced}
use Rattle.instruction_history.proofs.DraftLemmas.{so_far-known}
use Rattle.instruction_history.proofs.PriceLemmas.{order_list-priced}
use Rattle.instruction_history.proofs.WellFormedLemmas.{history-is}
use Rattle.instruction_history.proofs.history_or_flaw.HistoryOrFlaw.end.Goals as goal

pub of-requires : goal.of-requires
of-requires c =
    history-is c.requires.symbol c.requires.entries c.args.self.so_far c.requires.fits_indices (so_far-known _ _ (flaw_finding c.args.self.flaw) (ap flaw_finding c.in-None.is) c.requires.is.known) (subst (λ (orders : List Order). OrdersInRange orders) c.list.ensures.same c.numbers_are_in_range.ensures)

pub returns-in-None-clause-market : goal.returns-in-None-clause-market
returns-in-None-clause-market c = λ symbol entries has priced.
    let is = so_far-known _ _ (flaw_finding c.args.self.flaw) (ap flaw_finding c.in-None.is) has.known in
    subst (λ (orders : List Order). AreMarketPriced orders) (sym (c.of.ensures ∙ is.orders)) (order_list-priced symbol entries priced)
