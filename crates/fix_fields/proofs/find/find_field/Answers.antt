use Rattle.std.proofs.Common.{◌+◌, ap, sym, ◌∙◌}
use Rattle.std.specs.List.{list_any}
use Rattle.std.proofs.lemmas.List.{take_rest}
use Rattle.fix_fields.specs.TagSearch.{has_tag}
use Rattle.fix_fields.proofs.FindLemmas.{found_many, found_one}
use Rattle.fix_fields.proofs.find.find_field.Goals as goal

pub returns-in-Some : goal.returns-in-Some
returns-in-Some c =
    let fields = c.args.fields.now in
    let first = c.in-Some.first in
    let behind = ap (list_any (has_tag c.args.tag)) (sym (take_rest fields (first + 1))) ∙ sym c.occurs.ensures in
    sym (found_many fields c.args.tag first (sym c.first_place.ensures ∙ c.in-Some.is) (behind ∙ c.if-occurs.true))

pub returns-in-Some-2 : goal.returns-in-Some-2
returns-in-Some-2 c =
    let fields = c.args.fields.now in
    let first = c.in-Some.first in
    let behind = ap (list_any (has_tag c.args.tag)) (sym (take_rest fields (first + 1))) ∙ sym c.occurs.ensures in
    sym (found_one fields c.args.tag first (sym c.first_place.ensures ∙ c.in-Some.is) (behind ∙ c.if-occurs.false))
