use Rattle.std.proofs.Common.{sym, ◌∙◌}
use Rattle.audit_base.proofs.NumberLemmas.{whole_quantity}
use Rattle.audit_base.proofs.numbers.read_quantity.Goals as goal

pub returns-in-Some : goal.returns-in-Some
returns-in-Some c = c.of.ensures ∙ sym (whole_quantity c.args.text.now c.in-Some.value (sym c.in-Some.ensures.value))
