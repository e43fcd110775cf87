use Rattle.std.proofs.Common.{◌≡◌, ◌∙◌, ap}
use Rattle.std.specs.List.{list_any}
use Rattle.std.proofs.lemmas.Result.{IfOk-weaker}
use Rattle.page_plots.specs.Measures.{paper_height}
use Rattle.page_plots.specs.Papers.{is_long_number, is_long_tick, paper_of}
use Rattle.page_plots.proofs.papers.plot_paper.Goals as goal

pub returns : goal.returns
returns c =
    let left : c.in_ok-left.left ≡ list_any is_long_tick c.args.axes.now.prices.items = c.in_ok-left.ensures ∙ ap (list_any is_long_tick) c.deref.ensures.value in
    let right : c.has_long_number-right.result ≡ list_any is_long_number c.args.axes.now.numbers.items = c.has_long_number-right.ensures ∙ ap (list_any is_long_number) c.deref-2.ensures.value in
    IfOk-weaker c.paper_of.result _ _ (λ text e. e ∙ (λ i. paper_of (left i) (right i) paper_height)) c.paper_of.ensures
