use Rattle.std.proofs.Common.{◌≡◌, length, take, ap, sym, ◌∙◌, arith}
use Rattle.std.specs.Fmt.{decimal}
use Rattle.std.proofs.lemmas.List.{length-take-le}
use Rattle.fix_fields.proofs.SearchLemmas.{first_equals}
use Rattle.fix_fields.proofs.TagLemmas.{no_equals, no_tag, tag_split, tag_form-some}
use Rattle.fix_fields.proofs.tags.long_tag_at.Goals as goal

pub overflow_add-result : goal.overflow_add-result
overflow_add-result c =
    let first = first_equals c.args.bytes.now c.in_ok-size.size (sym c.equals_sign.ensures ∙ c.in_ok-size.was) in omega (arith, first.ten)

pub returns-in_err-size-clause-none : goal.returns-in_err-size-clause-none
returns-in_err-size-clause-none c =
    rw c.from_residual.ensures (no_equals c.args.bytes.now (sym c.equals_sign.ensures ∙ c.in_err-size.was))

pub returns-in_err-tag-clause-none : goal.returns-in_err-tag-clause-none
returns-in_err-tag-clause-none c =
    let bytes = c.args.bytes.now in
    let size = c.in_ok-size.size in
    let first = first_equals bytes size (sym c.equals_sign.ensures ∙ c.in_ok-size.was) in
    rw c.from_residual-in_err-tag.ensures (no_tag bytes size first (sym c.tag_of.ensures ∙ c.in_err-tag.was))

pub returns-clause-tag : goal.returns-clause-tag
returns-clause-tag c =
    (tag_form-some (take c.in_ok-size.size c.args.bytes.now) c.in_ok-tag.tag (sym c.tag_of.ensures ∙ c.in_ok-tag.was)).1

pub returns-clause-bytes : goal.returns-clause-bytes
returns-clause-bytes c =
    let first = first_equals c.args.bytes.now c.in_ok-size.size (sym c.equals_sign.ensures ∙ c.in_ok-size.was) in
    tag_split c.args.bytes.now c.in_ok-size.size c.in_ok-tag.tag first.low first.here (sym c.tag_of.ensures ∙ c.in_ok-tag.was)

pub returns-clause-size : goal.returns-clause-size
returns-clause-size c =
    let bytes = c.args.bytes.now in
    let size = c.in_ok-size.size in
    let first = first_equals bytes size (sym c.equals_sign.ensures ∙ c.in_ok-size.was) in
    let same = (tag_form-some (take size bytes) c.in_ok-tag.tag (sym c.tag_of.ensures ∙ c.in_ok-tag.was)).0 in
    let cut : length (take size bytes) ≡ size = length-take-le size bytes (omega (arith, first.low)) in
    let sizes : length (take size bytes) ≡ length (decimal c.in_ok-tag.tag) = ap length same in omega arith
