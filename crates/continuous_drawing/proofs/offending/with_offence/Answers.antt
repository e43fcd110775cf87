use Rattle.std.proofs.Common.{◌++◌, ◌∙◌, ap, ℕ}
use Rattle.std.proofs.lemmas.Result.{IfOk-weaker}
use Rattle.continuous_drawing.specs.Offending.{line_and_words}
use Rattle.continuous_drawing.proofs.offending.with_offence.Goals as goal

pub returns : goal.returns
returns c = IfOk-weaker c.with_line_and_words.result _ _ (λ more e. e ∙ ap (λ (x : ℕ). c.args.made ++ line_and_words x c.args.offence) c.distance_of-x.ensures) c.with_line_and_words.ensures
