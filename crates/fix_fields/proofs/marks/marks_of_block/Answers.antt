use Rattle.std.proofs.Common.{eqb, subst, sym, arith, w8}
use Rattle.std.specs.Simd.Lanes.{chunk}
use Rattle.std.proofs.lemmas.Simd.{bitmask_splat, length-chunk}
use Rattle.fix_fields.specs.Marks.{AreMarks}
use Rattle.fix_fields.proofs.MarkLemmas.{block-marks}
use Rattle.fix_fields.proofs.marks.marks_of_block.Goals as goal

pub returns : goal.returns
returns c =
    let text = c.args.text.now in
    let at = c.args.at in
    subst (AreMarks text at) (sym (bitmask_splat w8 eqb (chunk at 64 text) 64 1 (length-chunk at 64 text c.requires) (omega arith))) (block-marks text at c.requires)
