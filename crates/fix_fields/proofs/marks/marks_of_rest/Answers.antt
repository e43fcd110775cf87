use Rattle.std.proofs.Common.{◌++◌, ◌-◌, ap, ◌∙◌, subst, List, ℕ, length, drop, replicate}
use Rattle.std.proofs.lemmas.List.{drop-replicate, take_rest}
use Rattle.fix_fields.specs.Marks.{AreMarks}
use Rattle.fix_fields.proofs.MarkLemmas.{rest-marks}
use Rattle.fix_fields.proofs.marks.marks_of_rest.Goals as goal

pub returns : goal.returns
returns c =
    let text = c.args.text.now in
    let at = c.args.at in
    let rest = drop at text in
    let block =
    c.put_first.ensures ∙ ap (λ (r : List ℕ). r ++ drop (length r) (replicate 64 0)) (take_rest text at)
    ∙ ap (λ (zeros : List ℕ). rest ++ zeros) (drop-replicate (length rest) 64 0) in
    rest-marks text at (64 - length rest) c.marks_of_block.result (subst (λ (bytes : List ℕ). AreMarks bytes 0 c.marks_of_block.result) block c.marks_of_block.ensures)
