use Rattle.std.proofs.Common.{ap, ◌∙◌, List, refl}
use Rattle.order_book.specs.declared.books.Resting.{Resting}
use Rattle.order_book.specs.Books.{BookSide, after_take}
use Rattle.order_book.proofs.EntryLemmas.{with_best_left, popped-first}
use Rattle.order_book.proofs.books.Book.take.Goals as goal

pub invariant_of-self : goal.invariant_of-self
invariant_of-self c = (with_best_left c.self.inside.side c.self.inside.orders.entries c.put.new.orders.entries c.in-Some.rank.now c.in-Some.rank.now c.in-Some.best.now _ c.args.quantity
    c.self.invariant c.in-Some.ensures.first refl c.if-quantity-best.true refl c.put.ensures).0

pub invariant_of-self-else-quantity-best : goal.invariant_of-self-else-quantity-best
invariant_of-self-else-quantity-best c = (popped-first c.self.inside.side c.self.inside.orders.entries c.pop_first.new.self.entries c.in-Some.rank.now c.in-Some.best.now c.pop_first.result c.args.quantity
    c.self.invariant c.in-Some.ensures.first c.pop_first.ensures.variant.1 c.pop_first.ensures.removal c.if-quantity-best.false).0

pub returns-then-quantity-best : goal.returns-then-quantity-best
returns-then-quantity-best c =
    let made = with_best_left c.self.inside.side c.self.inside.orders.entries c.put.new.orders.entries c.in-Some.rank.now c.in-Some.rank.now c.in-Some.best.now _ c.args.quantity
    c.self.invariant c.in-Some.ensures.first refl c.if-quantity-best.true refl c.put.ensures in
    let new : List Resting → BookSide = λ xs. record { side = c.self.inside.side; resting = xs } in
    ap new made.1 ∙ ap (λ (b : BookSide). record b { resting = after_take c.args.quantity b.resting }) c.self.view_is
