use Rattle.std.proofs.Common.{◌≡◌, ◌++◌, ◌∙◌, decimal}
use Rattle.std.proofs.lemmas.Result.{IfOk-weaker}
use Rattle.page_plots.specs.PlotLines.{worded_line}
use Rattle.call_drawing.proofs.lines.with_quantity_line.Goals as goal

pub returns : goal.returns
returns c =
    let text : c.deref.result.now ≡ c.args.line.now.words.now ++ decimal c.args.quantity = c.deref.ensures.value ∙ c.in_ok-text.ensures in
    IfOk-weaker c.with_worded_line.result _ _ (λ more e. e ∙ (λ i. c.args.made ++ worded_line c.args.line.now.class.now (record { x = c.from-x.ensures i; y = c.args.line.now.top }) c.args.line.now.top c.args.at.anchor (text i))) c.with_worded_line.ensures
