use Rattle.std.proofs.Common.{◌∙◌}
use Rattle.short_order.proofs.RankedLemmas.{best-found}
use Rattle.short_order.proofs.ranked.best_short.Goals as goal

pub returns-clause-best : goal.returns-clause-best
returns-clause-best c = λ side deals list ranked totals.
    c.first_short.ensures.first ∙ best-found c.args.orders.now side c.args.ranked.now c.args.traded.now deals list ranked totals
