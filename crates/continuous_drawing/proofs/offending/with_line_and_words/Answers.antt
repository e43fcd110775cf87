use Rattle.std.proofs.Common.{◌≡◌, ◌++◌, ◌∙◌}
use Rattle.std.specs.Prelude.{codes}
use Rattle.std.proofs.lemmas.Result.{IfOk-weaker}
use Rattle.page_plots.specs.Measures.{upper_end}
use Rattle.page_plots.specs.PlotLines.{worded_line}
use Rattle.continuous_drawing.specs.Offending.{words_foot, words_of}
use Rattle.continuous_drawing.proofs.offending.with_line_and_words.Goals as goal

pub returns : goal.returns
returns c =
    let text : c.deref.result.now ≡ words_of c.args.offence = c.deref.ensures.value ∙ c.in_ok-text.ensures in
    IfOk-weaker c.with_worded_line.result _ _ (λ more e. e ∙ (λ i. c.args.made ++ worded_line (codes "mark") (record { x = c.args.x; y = upper_end }) words_foot (c.anchor_beside.ensures i) (text i))) c.with_worded_line.ensures
