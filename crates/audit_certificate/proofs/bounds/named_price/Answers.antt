use Rattle.std.proofs.Common.{ap, ◌∙◌}
use Rattle.audit_certificate.specs.Bounds.{price_in_text}
use Rattle.audit_certificate.proofs.BoundLemmas.{price-after}
use Rattle.audit_certificate.proofs.bounds.named_price.Goals as goal

pub returns-clause-same : goal.returns-clause-same
returns-clause-same c = c.price_in_text.ensures.same ∙ ap price_in_text c.before_comma.ensures ∙ price-after c.args.line.now c.if-line-lt6.false
