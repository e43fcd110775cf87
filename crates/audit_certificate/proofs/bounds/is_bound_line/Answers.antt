use Rattle.audit_certificate.proofs.BoundLemmas.{tells-bound, tells-no_bound}
use Rattle.audit_certificate.proofs.bounds.is_bound_line.Goals as goal

pub returns-then-not-branch : goal.returns-then-not-branch
returns-then-not-branch c = tells-no_bound c.args.rule c.args.orders.now c.args.volume c.named_price-price.result c.args.line.now c.in_ok-is_bound_text.field-0 c.named_price-price.ensures.same
    c.in_ok-is_bound_text.ensures c.if-not-branch.true

pub returns : goal.returns
returns c = tells-bound c.args.rule c.args.orders.now c.args.volume c.named_price-price.result c.args.line.now c.in_ok-is_bound_text.field-0 c.shows_no_greater_volume.result c.named_price-price.ensures.same c.named_price-price.ensures.in_range
    c.in_ok-is_bound_text.ensures c.if-not-branch.false c.shows_no_greater_volume.ensures
