use Rattle.std.proofs.Common.{◌≡◌, ◌++◌, ◌∙◌, decimal}
use Rattle.std.proofs.lemmas.Result.{IfOk-weaker}
use Rattle.page_markup.specs.Escapes.{escaped}
use Rattle.page_plots.specs.Shapes.{written_label}
use Rattle.page_plots.proofs.shapes.with_label.Goals as goal

pub returns : goal.returns
returns c =
    let x : c.as_bytes.result.now ≡ decimal c.args.at.x = c.as_bytes.ensures.value ∙ c.format.ensures.text in
    let y : c.as_bytes-2.result.now ≡ decimal c.args.at.y = c.as_bytes-2.ensures.value ∙ c.format-2.ensures.text in
    let text : c.in_ok-text.text ≡ escaped c.args.words.now = c.in_ok-text.ensures ∙ (λ i. (c.new.ensures i) ++ escaped c.args.words.now) in
    IfOk-weaker c.with_written_label.result _ _ (λ made e. e ∙ (λ i. c.args.made ++ written_label c.args.class.now (x i) (y i) (c.word.ensures i) (text i))) c.with_written_label.ensures
