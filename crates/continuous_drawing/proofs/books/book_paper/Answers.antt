use Rattle.std.proofs.Common.{◌≡◌, ◌∙◌, ◌||◌, ap, Bool, false}
use Rattle.std.specs.List.{list_any}
use Rattle.std.proofs.lemmas.Result.{IfOk-weaker}
use Rattle.page_plots.specs.Papers.{paper_of}
use Rattle.continuous_drawing.specs.Books.{is_long_line}
use Rattle.continuous_drawing.proofs.books.book_paper.Goals as goal

pub returns : goal.returns
returns c =
    let layout = c.args.layout.now in
    let bids : c.in_ok-long_bids.long_bids ≡ list_any is_long_line layout.bids.items = c.in_ok-long_bids.ensures ∙ ap (list_any is_long_line) c.deref.ensures.value in
    let asks : c.in_ok-long_asks.long_asks ≡ list_any is_long_line layout.asks.items = c.in_ok-long_asks.ensures ∙ ap (list_any is_long_line) c.deref-2.ensures.value in
    IfOk-weaker c.paper_of.result _ _ (λ text e. e ∙ ap (λ (left : Bool). paper_of left false layout.height) (c.either_is_long-left.ensures ∙ (λ i. bids i || asks i))) c.paper_of.ensures
