use Rattle.std.proofs.Common.{◌≡◌, ℕ, ◌+◌, ◌-◌, ◌≤◌, ◌++◌, List, length, take, drop, arith, ap, sym, ◌∙◌, append_assoc}
use Rattle.std.proofs.lemmas.List.{length-take-le, take-append-le, take-take, drop-drop, take-append-drop, take_rest}
use Rattle.std.proofs.lemmas.Slice.{drop-append-drop}
use borrow.Rule.Slice.PartMut.{put_mid}
use Rattle.audit_base.proofs.names.put_ends.Goals as goal

-- the two ends of a text over the first bytes of a block are the text
overlaid : (start width : ℕ) (text block : List ℕ) → start + width ≡ length text → start ≤ width
    → put_mid start (length text - start) (take width text ++ drop width block) (drop start text) ≡ text ++ drop (length text) block
overlaid start width text block sum le =
    let front = take width text ++ drop width block in
    let wide : length (take width text) ≡ width = length-take-le width text (omega arith) in
    let first : take start front ≡ take start text =
    take-append-le start (take width text) (drop width block) (omega arith) ∙ take-take start width text le in
    let end : start + (length text - start) ≡ length text = omega arith in
    let past : drop (length text - start) (drop start front) ≡ drop (length text) block =
    drop-drop (length text - start) start front ∙ ap (λ (n : ℕ). drop n front) end
    ∙ drop-append-drop width block (take width text) (length text) (omega arith) wide in
    (λ i. first i ++ (drop start text ++ past i))
    ∙ sym (append_assoc (take start text) (drop start text) (drop (length text) block))
    ∙ ap (λ (t : List ℕ). t ++ drop (length text) block) (take-append-drop start text)

pub returns : goal.returns
returns c =
    let text = c.args.text.now in
    let width = c.args.width in
    let start = length text - width in
    (λ i. put_mid start (length text - start) (c.copy_from_slice.ensures.after i ++ drop width c.args.block.now) ((c.copy_from_slice-2.ensures.after ∙ take_rest text start) i))
    ∙ overlaid start width text c.args.block.now (omega arith) (omega arith)
