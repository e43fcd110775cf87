use Rattle.std.proofs.Common.{◌≡◌, ◌∙◌, ℕ, ◌+◌, ◌++◌, length, take, ap, arith}
use Rattle.fix_days.proofs.RunLemmas.{front-kept}
use Rattle.fix_days.proofs.runs.append_front.Goals as goal

pub returns : goal.returns
returns c =
    let start : c.len-start.result ≡ length c.args.out.now.items = omega (arith, c.len-start.ensures, c.args.out.now.ok.0) in
    c.truncate.ensures.items ∙ ap (take (c.len-start.result + c.args.size)) c.in_ok-extend_from_slice.ensures.items
    ∙ ap (λ (n : ℕ). take (n + c.args.size) (c.args.out.now.items ++ take 16 c.args.text.now)) start ∙ front-kept c.args.out.now.items c.args.text.now c.args.size c.requires.near c.requires.room
