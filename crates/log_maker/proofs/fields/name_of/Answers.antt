use Rattle.std.proofs.Common.{◌≡◌, ◌∷◌, ap, ◌∙◌, rules}
use Rattle.std.specs.Prelude.{decimal}
use Rattle.audit_base.specs.Names.{name_form}
use Rattle.audit_base.proofs.LeastLemmas.{none_some}
use Rattle.log_maker.proofs.GeneratorLemmas.{lettered-is}
use Rattle.log_maker.proofs.fields.name_of.Goals as goal

pub unreachable-requires : goal.unreachable-requires
unreachable-requires c =
    let text : c.deref.result.now ≡ c.args.letter ∷ decimal c.args.number = search rules in
    none_some c.read_name.result _ c.in-None.is
    (c.read_name.ensures ∙ ap name_form text
    ∙ lettered-is c.args.letter c.args.number c.requires (search rules) (search rules))
