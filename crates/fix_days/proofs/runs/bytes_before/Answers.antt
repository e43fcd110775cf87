use Rattle.std.proofs.Common.{eqb, take, sym, ap, ◌∙◌, arith, w8}
use lib.Count.{count_trailing_zeros}
use Rattle.std.proofs.lemmas.List.{length-take-le}
use Rattle.std.proofs.lemmas.Simd.{bitmask_splat, leading_from_mask_l, trailing_mask_l}
use Rattle.fix_days.proofs.runs.bytes_before.Goals as goal

pub returns-then-found-eq0 : goal.returns-then-found-eq0
returns-then-found-eq0 c =
    let v = take 16 c.args.text.now in
    let long = length-take-le 16 c.args.text.now c.requires in
    let hits = bitmask_splat w8 eqb v 16 c.args.byte long (omega arith) in
    sym (leading_from_mask_l (λ x. eqb x c.args.byte) v (sym hits ∙ c.if-found-eq0.true) ∙ long)

pub returns-else-found-eq0 : goal.returns-else-found-eq0
returns-else-found-eq0 c =
    let v = take 16 c.args.text.now in
    let long = length-take-le 16 c.args.text.now c.requires in
    let hits = bitmask_splat w8 eqb v 16 c.args.byte long (omega arith) in
    ap (count_trailing_zeros 64) hits ∙ trailing_mask_l (λ x. eqb x c.args.byte) 64 v (omega arith) (omega arith)
