use Rattle.std.proofs.Common.{◌∙◌, ◌<◌, ◌==◌, ℕ, cond, length, ap, slice_set, arith}
use Rattle.std.specs.Prelude.{get_or}
use Rattle.std.proofs.lemmas.List.{get_or_default}
use Rattle.std.proofs.lemmas.List.Edits.{map_over_more}
use Rattle.fix_days.proofs.runs.put_soh.Goals as goal

pub loop-each-preserved : goal.loop-each-preserved
loop-each-preserved c =
    let i = c.loop-each.each-index in
    let within : i < length c.args.bytes.now = omega arith in
    let here : i < length c.loop-each.bytes = omega arith in
    ap (λ (v : ℕ). slice_set c.loop-each.bytes i v) c.byte_for.ensures
    ∙ map_over_more (λ b. cond (b == c.args.byte) 1 b) c.args.bytes.now c.loop-each.bytes i (get_or c.loop-each.bytes i 0) within c.loop-each.invariant
    (get_or_default c.loop-each.bytes i 0 (get_or c.loop-each.bytes i 0) here)
