use Rattle.std.proofs.Common.{◌∙◌, ap, ℕ, List, [], ◌∷◌, ◌++◌}
use Rattle.plain_logs.proofs.TextLemmas.{more-text}
use Rattle.plain_logs.proofs.lines.PlainLinesBodies.take.Goals as goal

pub returns : goal.returns
returns g c = λ list has. more-text g.W.SkippedGhost.skipped list c.args.body.now c.args.self.now.text.items _ (c.in_ok-push.ensures.items ∙ ap (λ (t : List ℕ). t ++ 10 ∷ []) c.in_ok-write_frame.ensures.ok) has
