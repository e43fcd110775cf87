use Rattle.std.proofs.Common.{◌∙◌, arith}
use Rattle.audit_base.specs.Deals.{deal_past_end}
use Rattle.audit_base.proofs.OffenceLemmas.{get_or-default}
use Rattle.audit_certificate.proofs.HeadLemmas.{price-of_first}
use Rattle.audit_certificate.proofs.heads.have_one_price.Goals as goal

pub returns-in-len1-up : goal.returns-in-len1-up
returns-in-len1-up c =
    let some = c.in-len1-up.len_at_least in (
      λ all. record { price = c.first-item.result.price; each = c.all_at.ensures.0 all },
      λ one. c.all_at.ensures.1 (price-of_first c.args.deals.now c.first-item.result (omega arith) (c.first-item.is ∙ get_or-default c.args.deals.now 0 c.first-item.result deal_past_end (omega arith)) one),
    )
