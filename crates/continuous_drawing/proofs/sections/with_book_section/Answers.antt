use Rattle.std.proofs.Common.{◌≡◌, ◌++◌, ◌∙◌, ap}
use Rattle.std.specs.Prelude.{codes}
use Rattle.std.proofs.lemmas.Result.{IfOk-weaker}
use Rattle.continuous_drawing.specs.Books.{book_paper}
use Rattle.continuous_drawing.specs.Captions.{book_caption}
use Rattle.continuous_drawing.specs.Sections.{marks_a_line, worded_figure}
use Rattle.continuous_drawing.proofs.sections.with_book_section.Goals as goal

pub returns : goal.returns
returns c =
    let paper : c.deref.result.now ≡ book_paper c.args.layout.now = c.deref.ensures.value ∙ c.in_ok-paper.ensures in
    let words : c.deref-2.result.now ≡ book_caption (marks_a_line c.args.orders.now c.args.marked.now c.args.layout.now) = c.deref-2.ensures.value ∙ c.in_ok-words.ensures ∙ ap book_caption c.draws_some.ensures in
    IfOk-weaker c.with_worded_figure.result _ _ (λ more e. e ∙ (λ i. c.args.made ++ worded_figure (codes "The book right before the record") (paper i) (c.in_ok-shapes.ensures i) (words i))) c.with_worded_figure.ensures
