use Rattle.audit_certificate.proofs.heads.head_rule.Goals as goal

pub returns-in-None : goal.returns-in-None
returns-in-None c = λ the_rule is. (rw c.in-None.is at c.in_ok-named_rule.ensures) the_rule is.text_is
