use Rattle.std.proofs.Common.{◌∙◌, ◌==◌, ap, sym, option_copied}
use Rattle.audit_base.specs.Deals.{NamesOrders}
use Rattle.rule_drawing.proofs.FoundLemmas.{found-holds}
use Rattle.rule_drawing.proofs.offending.cause_at.Goals as goal

pub cause_of-requires : goal.cause_of-requires
cause_of-requires c =
    found-holds (NamesOrders c.args.orders.now) (λ d. d.place == c.args.place) c.args.deals.now c.in-Some.deal.now c.requires.named
    (sym c.deal_at.ensures ∙ ap option_copied c.in-Some.is)
