use Rattle.std.proofs.Common.{◌∙◌, ap}
use Rattle.audit_base.specs.Names.{name_form}
use Rattle.desk_filing.proofs.DayCaseLemmas.{short_label}
use Rattle.desk_filing.proofs.days.label_of_symbol.Goals as goal

pub returns : goal.returns
returns c = c.read_name.ensures ∙ ap name_form c.deref.ensures.value ∙ short_label c.args.label.now c.args.symbol.now _ c.in_ok-text.ensures.label_is c.in_ok-text.ensures.symbol_is c.in_ok-text.ensures.joined
