use Rattle.std.proofs.Common.{ap, ◌∙◌, List}
use Rattle.std.specs.List.{list_any}
use Rattle.order_book.specs.declared.books.Resting.{Resting}
use Rattle.order_book.specs.Books.{BookSide, has_index_and_limit, without_order}
use Rattle.order_book.proofs.EntryLemmas.{removed, was-there}
use Rattle.order_book.proofs.books.Book.cancel.Goals as goal

pub invariant_of-self : goal.invariant_of-self
invariant_of-self c = (removed c.self.inside.side c.args.index c.args.limit c.of-rank.ensures.priced c.of-rank.result c.self.inside.orders.entries c.remove.new.self.entries
    c.of-rank.ensures.same c.self.invariant c.remove.ensures.entries c.remove.ensures.ordered).0

pub returns-clause-there : goal.returns-clause-there
returns-clause-there c = was-there c.self.inside.side c.args.index c.args.limit c.of-rank.ensures.priced c.of-rank.result c.self.inside.orders.entries c.is_some.result c.remove.result
    c.of-rank.ensures.same c.self.invariant c.remove.ensures.value c.is_some.ensures ∙ ap (λ (b : BookSide). list_any (has_index_and_limit c.args.index c.args.limit) b.resting) c.self.view_is

pub returns-clause-gone : goal.returns-clause-gone
returns-clause-gone c =
    let made = removed c.self.inside.side c.args.index c.args.limit c.of-rank.ensures.priced c.of-rank.result c.self.inside.orders.entries c.remove.new.self.entries
    c.of-rank.ensures.same c.self.invariant c.remove.ensures.entries c.remove.ensures.ordered in
    let new : List Resting → BookSide = λ xs. record { side = c.self.inside.side; resting = xs } in
    ap new made.1 ∙ ap (λ (b : BookSide). record b { resting = without_order c.args.index c.args.limit b.resting }) c.self.view_is
