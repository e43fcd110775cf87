use Rattle.std.proofs.Common.{◌≢◌, ℕ, ◌-◌, List, ◌∷◌, ◌++◌, length, take, drop, ap, subst, sym, ◌∙◌}
use Rattle.std.specs.Option.{option_map}
use Rattle.std.proofs.lemmas.List.{take_rest, drop-drop}
use Rattle.fix_fields.specs.Grammar.{HasForm, NoField}
use Rattle.fix_fields.specs.Ranges.{tag_value_of}
use Rattle.fix_fields.proofs.GrammarLemmas.{no_value}
use Rattle.fix_fields.proofs.split.field_at.Goals as goal

pub returns-in_err-size-clause-none : goal.returns-in_err-size-clause-none
returns-in_err-size-clause-none c =
    let body = c.args.body.now in
    let at = c.args.at in
    let tag = c.in_ok-tag.tag in
    let size = c.in_ok-tag.size in
    let before = option_map (tag_value_of body) c.args.before in
    let bytes = take (length body - at) (drop at body) in
    let value_bytes = sym (drop-drop size at body) ∙ ap (drop size) (sym (take_rest body at)) in
    let none =
    subst (λ (r : List ℕ). (value more : List ℕ) → HasForm before tag value → r ≢ value ++ 1 ∷ more) value_bytes c.in_err-size.ensures.none in
    let here = no_value before bytes (drop size bytes) tag c.in_ok-tag.ensures.tag c.in_ok-tag.ensures.bytes none in
    rw c.from_residual-in_err-size.ensures (subst (λ (r : List ℕ). NoField before r) (take_rest body at) here)
